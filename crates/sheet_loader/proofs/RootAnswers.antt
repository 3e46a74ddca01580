-- What a file's root comes to, whose version is known from its attributes on.
use Rattle.std.proofs.Common.{◌≡◌, ℕ, true, List, Option, Some, Result, refl, ap, sym, ◌∙◌}
use Rattle.std.proofs.Math.Path.{subst}
use Rattle.stx_base.specs.declared.node.First.{First}
use Rattle.xml_events.specs.Document.{inner}
use Rattle.xml_events.specs.Tree.{Future}
use Rattle.sheet_loader.proofs.Beginning.{known_of, root_known, tag_from, transform_named}
use Rattle.sheet_loader.proofs.Resuming.{equal_answer}
use Rattle.sheet_loader.proofs.Rooting.{versioned_place, versioned_sound}
use Rattle.sheet_loader.specs.Drafts.{before_tag, element_of, loading_of, version_taken}
use Rattle.sheet_loader.specs.Elements as element
use Rattle.sheet_loader.specs.Events.{BehindTag, begins, place_at, then_next}
use Rattle.sheet_loader.specs.Judging.{is_transform_named}
use Rattle.sheet_loader.specs.Levels.{Place_in}
use Rattle.sheet_loader.specs.Meant.{inside_of}
use Rattle.sheet_loader.specs.Read as read
use Rattle.sheet_loader.specs.Read.{known}
use Rattle.sheet_loader.specs.Reading.{File}
use Rattle.sheet_loader.specs.Sound.{IsSound, is_document}
use Rattle.sheet_loader.specs.Values.{Reads}
use Rattle.sheet_loader.specs.declared.draft.Draft.{Draft}
use Rattle.sheet_loader.specs.declared.element.StartTag.{StartTag}
use Rattle.sheet_loader.specs.declared.refused.Refused.{Refused}

module _ (d : Draft) (tag : StartTag) (sound : IsSound (before_tag d tag.around)) (document : is_document (inside_of d.top.inside) ≡ true) (mid : Draft) (is : mid ≡ record d { file = record d.file { version = version_taken d.file.version tag.attrs } }) where
  pub root_sound : IsSound (before_tag mid tag.around)
  root_sound = subst (λ (x : Draft). IsSound (before_tag x tag.around)) (sym is) (versioned_sound d tag.around sound document (version_taken d.file.version tag.attrs))

  -- its element is one of the language
  pub root_behind : is_transform_named tag.name ≡ true → (reads : Reads) (files : List (Option File)) (first : First) (f : Future) (new : Draft) (r : Result (Option (List ℕ)) Refused)
      → (let q = place_at files (begins (element_of tag mid) first f) (before_tag mid tag.around) in
      BehindTag reads files (then_next reads files q (known reads files q.here q.before (element_of tag mid) (inner f) (Some element.Transform) (loading_of mid)) f) (record { file = mid.file.number; offset = tag.offset }) new f r)
      → (let q = place_at files (begins (element_of tag d) first f) (before_tag d tag.around) in
      BehindTag reads files (then_next reads files q (read.element_of reads files q.here q.before (element_of tag d) (inner f) q.here.inside (loading_of d)) f) (record { file = d.file.number; offset = tag.offset }) new f r)
  root_behind named reads files first f new r h =
      let e = element_of tag d in
      let goes : Place_in → Type 0 = λ q. BehindTag reads files (then_next reads files q (known reads files q.here q.before e (inner f) (Some element.Transform) (loading_of d)) f) (record { file = d.file.number; offset = tag.offset }) new f r in
      let there = subst (λ (x : Draft). let q = place_at files (begins (element_of tag x) first f) (before_tag x tag.around) in
      BehindTag reads files (then_next reads files q (known reads files q.here q.before (element_of tag x) (inner f) (Some element.Transform) (loading_of x)) f) (record { file = x.file.number; offset = tag.offset }) new f r) is h in
      let here : goes (place_at files (begins e first f) (before_tag d tag.around)) = subst goes (versioned_place d tag.around sound document (version_taken d.file.version tag.attrs) files e first f refl) there in
      let p = place_at files (begins e first f) (before_tag d tag.around) in
      tag_from reads files
      (equal_answer reads files
      (ap (λ x. then_next reads files p x f) (root_known d tag sound reads files first f document named)
      ∙ known_of d tag sound reads files first f (Some element.Transform) (transform_named tag.name named)))
      (record { file = d.file.number; offset = tag.offset }) new f r here
