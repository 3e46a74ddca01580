-- What is written of a run that passes a document through.
use Rattle.std.proofs.Common.{◌≡◌, List, [], ◌∷◌, ◌++◌, map, refl, sym, ap, ◌∙◌, append_assoc, append-nil, encode_utf8_all}
use Rattle.stx_base.specs.Course.{Ends}
use Rattle.stx_base.specs.declared.part.Part.{Part}
use Rattle.stx_base.proofs.Course.{one_end}
use Rattle.result_writer.specs.Escape.{escaped}
use Rattle.result_writer.specs.Laws.{WritesNodes}
use Rattle.result_writer.specs.Target.{cdata_text, nothing, text, text_from}
use Rattle.result_writer.specs.declared.escape.Context.TheVariants.{Content}
use Rattle.sheet_model.specs.declared.pass.Pass.{Pass}
use Rattle.xml_events.specs.Tree.{Forest, End, Cut, Single, Nested, Chars, CData, Comment, Pi}
use Rattle.template_machine.specs.Copies.{Passes, WritesDocuments, WritesNothing, WritesTexts, nodes_of, parts_put, texts_of, texts_written}
use Rattle.template_machine.specs.Ending.{Ending, Put, Said}
use Rattle.template_machine.specs.Job.{Given}
use Rattle.template_machine.specs.Meaning.{code, meaning}
use Rattle.template_machine.specs.Passed.{passing_run}
use Rattle.template_machine.proofs.Copying.{copies_all, copies_nothing, copies_texts}
use Rattle.template_machine.proofs.Passing.{passes_through}

all_put : (ps : List Part) → parts_put (map Put ps) ≡ ps
all_put [] = refl
all_put (p ∷ ps) = ap (λ l. p ∷ l) (all_put ps)

-- such a run is the one that its root group passes through
run_is : (given : Given) (p : Pass) → Passes given p → (list : Forest) (os : List Said) (e : Ending) → Ends (code given) (meaning given list) os e
    → (parts_put os ≡ (passing_run given list).parts) × (e ≡ (passing_run given list).ending)
run_is given p passes list os e h =
    let one = one_end h (passes_through given passes.templates passes.variables list) in
    (ap parts_put one.0 ∙ all_put (passing_run given list).parts, one.1)

pub writes_documents : WritesNodes → WritesDocuments
writes_documents writes given passes list os h =
    let so = run_is given _ passes list os _ h in
    ap text (so.0 ∙ copies_all given list passes.kinds (sym so.1)) ∙ writes (nodes_of [] list)

-- texts, and then other parts
texts_then : (f : Forest) (ps : List Part) → text_from nothing (texts_of f ++ ps) ≡ texts_written f ++ text_from nothing ps
texts_then (End m offset) ps = refl
texts_then (Cut why) ps = refl
texts_then (Single m (Chars offset said) next) ps =
    ap (λ t. escaped Content (encode_utf8_all said) ++ t) (texts_then next ps) ∙ sym (append_assoc (escaped Content (encode_utf8_all said)) (texts_written next) (text_from nothing ps))
texts_then (Single m (CData offset said) next) ps =
    ap (λ t. cdata_text said ++ t) (texts_then next ps) ∙ sym (append_assoc (cdata_text said) (texts_written next) (text_from nothing ps))
texts_then (Single m (Comment offset said) next) ps = texts_then next ps
texts_then (Single m (Pi offset target said) next) ps = texts_then next ps
texts_then (Nested stage e kids next) ps =
    ap (text_from nothing) (append_assoc (texts_of kids) (texts_of next) ps)
    ∙ texts_then kids (texts_of next ++ ps)
    ∙ ap (λ t. texts_written kids ++ t) (texts_then next ps)
    ∙ sym (append_assoc (texts_written kids) (texts_written next) (text_from nothing ps))

pub writes_texts : WritesTexts
writes_texts given passes list os h =
    let so = run_is given _ passes list os _ h in
    ap text (so.0 ∙ copies_texts given list passes.kinds (sym so.1))
    ∙ ap text (sym (append-nil (texts_of list)))
    ∙ texts_then list []
    ∙ append-nil (texts_written list)

pub writes_nothing : WritesNothing
writes_nothing given passes list os e h = (run_is given _ passes list os e h).0 ∙ copies_nothing given list passes.kinds
