use Rattle.std.proofs.Common.{◌≡◌, List, ◌∷◌, ◌++◌, [], Ok, Err, length, refl, arith, ap, sym, ◌∙◌, append_assoc}
use Rattle.std.proofs.Math.Path.{subst}
use Rattle.std.proofs.lemmas.List.{append-nil}
use Rattle.std.specs.Vec.Iter.{into_iter_items}
use Rattle.stx_base.specs.declared.name.Attr.{Attr}
use Rattle.sheet_model.specs.declared.instr.LiteralAttr.{LiteralAttr}
use Rattle.sheet_loader.proofs.LiteralAttrs.{attrs_next, fault_next, refused_next}
use Rattle.sheet_loader.specs.Read.{literal_attrs}
use Rattle.sheet_loader.specs.Steps.{AreRead, templates_in}
use Rattle.sheet_loader.specs.Tags.{path_fault}
use Rattle.sheet_loader.specs.declared.frame.Version.{Version}
use Rattle.sheet_loader.proofs.draft.Draft.literal_attrs.Goals as goal

no_items : (xs : List Attr) → length xs ≡ 0 → xs ≡ []
no_items [] h = refl
no_items (x ∷ xs) h = absurd (omega arith)

pub loop-attr-preserved : goal.loop-attr-preserved
loop-attr-preserved c =
    let d = c.args.self.now in
    let dialect = c.version-dialect.result.dialect in
    let scope = d.file.scope in
    let rest = into_iter_items c.next.new.self in
    let all = into_iter_items c.loop-attr.attr-iterator in
    let step : all ≡ c.in-Some.attr ∷ rest = c.in-Some.ensures.steps.0 in
    record {
      good = λ reads. sym (fault_next reads dialect scope c.in-Some.attr rest c.in-Ok.attr (c.in-Ok.ensures reads)) ∙ ap (λ (l : List Attr). path_fault (templates_in reads dialect scope l)) (sym step) ∙ c.loop-attr.invariant.good reads;
      made = λ reads files.
          ap (λ (l : List LiteralAttr). l ++ literal_attrs reads files rest (templates_in reads dialect scope rest)) c.in_ok-push-in-Ok.ensures.ok
          ∙ append_assoc c.loop-attr.read (c.in-Ok.attr ∷ []) (literal_attrs reads files rest (templates_in reads dialect scope rest))
          ∙ ap (λ (l : List LiteralAttr). c.loop-attr.read ++ l) (sym (attrs_next reads dialect scope c.in-Some.attr rest files c.in-Ok.attr (c.in-Ok.ensures reads)))
          ∙ ap (λ (l : List Attr). c.loop-attr.read ++ literal_attrs reads files l (templates_in reads dialect scope l)) (sym step)
          ∙ c.loop-attr.invariant.made reads files;
    }

pub returns-in-Err : goal.returns-in-Err
returns-in-Err c = λ reads.
    let d = c.args.self.now in
    let dialect = c.version-dialect.result.dialect in
    let rest = into_iter_items c.next.new.self in
    subst (λ (v : Version). AreRead reads v.dialect d.file.scope c.args.attrs (Err c.in-Err.refused)) c.version-dialect.ensures
    (refused_next reads dialect d.file.scope c.in-Some.attr rest c.args.attrs c.in-Err.refused (c.in-Err.ensures reads)
    (ap (λ (l : List Attr). path_fault (templates_in reads dialect d.file.scope l)) (sym c.in-Some.ensures.steps.0) ∙ c.loop-attr.invariant.good reads))

pub returns : goal.returns
returns c = λ reads.
    let d = c.args.self.now in
    let dialect = c.version-dialect.result.dialect in
    let none : into_iter_items c.loop-attr.attr-iterator ≡ [] = no_items (into_iter_items c.loop-attr.attr-iterator) (omega (arith, c.in-None.ensures.steps.0, c.loop-attr.attr-iterator.rest.ok)) in
    subst (λ (v : Version). AreRead reads v.dialect d.file.scope c.args.attrs (Ok c.loop-attr.read)) c.version-dialect.ensures (
      sym (c.loop-attr.invariant.good reads) ∙ ap (λ (l : List Attr). path_fault (templates_in reads dialect d.file.scope l)) none,
      λ files. sym (append-nil c.loop-attr.read)
          ∙ ap (λ (l : List Attr). c.loop-attr.read ++ literal_attrs reads files l (templates_in reads dialect d.file.scope l)) (sym none)
          ∙ c.loop-attr.invariant.made reads files,
    )
