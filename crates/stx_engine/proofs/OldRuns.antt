-- Runs of sheets of version 1.0.
use Rattle.std.proofs.Common.{◌≡◌, zero, suc, ℕ, Bool, true, List, [], ◌∷◌, Contains, Option, Some, None, Ok, sym, ap, subst, ◌∙◌, arith}
use Rattle.std.specs.Option.{option_map}
use Rattle.stx_base.specs.Course.{Ends}
use Rattle.stx_base.specs.declared.part.Part.{Part}
use Rattle.stx_base.proofs.Course.{funext}
use Rattle.sheet_loader.specs.Files.{Documents, Loads, old_load}
use Rattle.sheet_loader.specs.Laws.{LoadsAsBefore}
use Rattle.sheet_model.specs.declared.sheet.Buffer.{Buffer}
use Rattle.sheet_model.specs.declared.sheet.Group.{Group}
use Rattle.stx_engine.specs.Older.{RunsAsBefore, old_reading, reading}
use Rattle.template_machine.specs.Job.{Given}
use Rattle.template_machine.specs.Older.{old_code, old_meaning}
use Rattle.template_machine.specs.Unchanged.{HasNoSections, IsOfOne, MeansAsBefore, PutsNoSections, is_old, is_old_part}
use Rattle.xml_events.specs.Document.{doc_for}
use Rattle.xml_events.specs.Joined.{CDataIsText, joined_doc}
use Rattle.xml_events.specs.Tree.{Forest}
use Rattle.stx_engine.proofs.OldSheets.{OldBuffers, OldGroups, OldParts, OldSheet, old_sheets}
use Rattle.stx_engine.proofs.Unrecognised.{documents_have_no_sections}

each_group : (gs : List Group) → OldGroups gs → (g : Group) → Contains gs g → is_old g.pass ≡ true
each_group [] h g (k, l, is) = absurd (omega (arith, l))
each_group (x ∷ gs) h g (zero, l, is) = subst (λ (g : Group). is_old g.pass ≡ true) is h.0
each_group (x ∷ gs) h g (suc k, l, is) = each_group gs h.1 g (k, omega (arith, l), is)

each_part : (ps : List Part) → OldParts ps → (p : Part) → Contains ps p → is_old_part p ≡ true
each_part [] h p (k, l, is) = absurd (omega (arith, l))
each_part (x ∷ ps) h p (zero, l, is) = subst (λ p. is_old_part p ≡ true) is h.0
each_part (x ∷ ps) h p (suc k, l, is) = each_part ps h.1 p (k, omega (arith, l), is)

each_buffer : (bs : List Buffer) → OldBuffers bs → (b : Buffer) → Contains bs b → OldParts b.content
each_buffer [] h b (k, l, is) = absurd (omega (arith, l))
each_buffer (x ∷ bs) h b (zero, l, is) = subst (λ (b : Buffer). OldParts b.content) is h.0
each_buffer (x ∷ bs) h b (suc k, l, is) = each_buffer bs h.1 b (k, omega (arith, l), is)

module _ (given : Given) (old : OldSheet given.sheet) where
  -- a document that is read for such a sheet
  read_old : (bytes : List ℕ) (ended : Bool) → HasNoSections (doc_for given.limits given.sheet.strip given.sheet.cdata bytes ended)
  read_old bytes ended =
      subst (λ c. HasNoSections (doc_for given.limits given.sheet.strip c bytes ended)) (sym old.cdata) (documents_have_no_sections given.limits given.sheet.strip bytes ended)

  is_of_one : (docs : Documents) → IsOfOne (reading docs given)
  is_of_one docs = record {
    groups = each_group given.sheet.groups old.groups;
    buffers = λ b among p k. each_part b.content (each_buffer given.sheet.buffers old.buffers b among) p k;
    documents = λ name tree is. of_bytes (docs name) tree is;
  } where
    of_bytes : (o : Option (List ℕ)) (tree : Forest) → option_map (λ bytes. doc_for given.limits given.sheet.strip given.sheet.cdata bytes true) o ≡ Some tree → HasNoSections tree
    of_bytes None tree is = absurd (cc)
    of_bytes (Some bytes) tree is =
        let same : doc_for given.limits given.sheet.strip given.sheet.cdata bytes true ≡ tree = cc in
        subst HasNoSections same (read_old bytes true)

  module _ (joined : CDataIsText) where
    read_before : (bytes : List ℕ) (ended : Bool) → doc_for given.limits given.sheet.strip given.sheet.cdata bytes ended ≡ joined_doc given.limits given.sheet.strip bytes ended
    read_before bytes ended = ap (λ c. doc_for given.limits given.sheet.strip c bytes ended) old.cdata ∙ joined given.limits given.sheet.strip bytes ended

    same_given : (docs : Documents) → reading docs given ≡ old_reading docs given
    same_given docs =
        ap (λ (documents : List ℕ → Option Forest). record given { documents = documents })
        (funext (λ name. ap (λ (f : List ℕ → Forest). option_map f (docs name)) (funext (λ bytes. read_before bytes true))))

pub runs_as_before : LoadsAsBefore → CDataIsText → MeansAsBefore → PutsNoSections → RunsAsBefore
runs_as_before loads joined means puts reads limits files name given all_one is =
    let was : (old_load reads limits files name).result ≡ Ok given.sheet = sym (ap (λ (l : Loads). l.result) (loads reads limits files name all_one)) ∙ is in
    let old = old_sheets reads limits files name given.sheet was in (
      was,
      λ docs bytes ended os e.
          let now = reading docs given in
          let before = old_reading docs given in
          let tree = doc_for given.limits given.sheet.strip given.sheet.cdata bytes ended in
          let old_tree = joined_doc given.limits given.sheet.strip bytes ended in
          let of_one = is_of_one given old docs in
          let plain = read_old given old bytes ended in
          let both = means now of_one tree plain os e in
          let did = λ (h : Given) (f : Forest). Ends (old_code h) (old_meaning h f) os e in
          let same : did now tree ≡ did before old_tree =
          ap (λ (h : Given). did h tree) (same_given given old joined docs) ∙ ap (λ (f : Forest). did before f) (read_before given old joined bytes ended) in (
            (λ h. subst (λ (x : Type 0). x) same (both.0 h), λ h. both.1 (subst (λ (x : Type 0). x) (sym same) h)),
            λ h o among. puts now of_one tree plain os e h o among,
          ),
    )
