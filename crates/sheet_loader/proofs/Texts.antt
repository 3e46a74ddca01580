-- What a text comes to where it stands.
use Rattle.std.proofs.Common.{◌≡◌, ℕ, true, false, not, ◌&&◌, List, [], ◌∷◌, ◌++◌, Option, ap, ◌∙◌, if◌then◌else◌}
use Rattle.std.proofs.Math.Path.{subst}
use Rattle.std.proofs.lemmas.List.{append-nil}
use Rattle.std.specs.List.{list_all}
use Rattle.stx_base.specs.Character.{is_space}
use Rattle.stx_base.specs.Course.{Halt, Ret, and_then}
use Rattle.stx_base.specs.declared.fault.SheetCode.TheVariants as code
use Rattle.xml_events.specs.Document.{inner, outer}
use Rattle.xml_events.specs.Tree.{CData, Chars, Future, Mark, Single}
use Rattle.sheet_loader.proofs.Places.{place_with, version_leaf}
use Rattle.sheet_loader.proofs.Resuming.{takes_text}
use Rattle.sheet_loader.specs.Elements.{allows_text, keeps_space}
use Rattle.sheet_loader.specs.Levels.{Place_in, place_in}
use Rattle.sheet_loader.specs.Read.{listed, text_item, text_of}
use Rattle.sheet_loader.specs.Reading.{Does, File, Listed, Loading, Refused, place, refused}
use Rattle.sheet_loader.specs.Remaining.{Reads_on, Stage, goes_on, place_of, remaining, version_by}
use Rattle.sheet_loader.specs.Resuming.{SameAnswer, resume}
use Rattle.sheet_loader.specs.Values.{Reads}
use Rattle.sheet_loader.specs.Versions.{Version}

module _ (reads : Reads) (files : List (Option File)) where
  -- the list of a place goes on behind a text
  abbrev pub behind_text : Place_in → Loading → (offset : ℕ) → List ℕ → Future → Does Listed
  behind_text p l offset text f =
      and_then (text_of reads files p.here offset text l) (λ r. resume reads files p.here (p.before ++ r.items) r.loading p.opens f)

  abbrev at_version : Stage → Version → Place_in
  at_version s version = place_in s.loading.sheet.files files version s.levels

  pub chars_come : (s : Stage) (mark : Mark) (offset : ℕ) (text : List ℕ) (f : Future) → SameAnswer reads files (remaining reads files (Reads_on s) (Single mark (Chars offset text) (inner f) ∷ outer f)) (behind_text (place_of files s f) s.loading offset text f)
  chars_come s mark offset text f =
      let version = version_by s.version (Single mark (Chars offset text) (inner f) ∷ outer f) in
      let p = at_version s version in
      subst (λ v. SameAnswer reads files (goes_on reads files p s.loading (Single mark (Chars offset text) (inner f) ∷ outer f)) (behind_text (at_version s v) s.loading offset text f))
      (version_leaf s.version mark (Chars offset text) f)
      ((takes_text reads files p.here p.before s.loading p.opens (outer f) mark (inner f) offset text).0)

  pub cdata_comes : (s : Stage) (mark : Mark) (offset : ℕ) (text : List ℕ) (f : Future) → SameAnswer reads files (remaining reads files (Reads_on s) (Single mark (CData offset text) (inner f) ∷ outer f)) (behind_text (place_of files s f) s.loading offset text f)
  cdata_comes s mark offset text f =
      let version = version_by s.version (Single mark (CData offset text) (inner f) ∷ outer f) in
      let p = at_version s version in
      subst (λ v. SameAnswer reads files (goes_on reads files p s.loading (Single mark (CData offset text) (inner f) ∷ outer f)) (behind_text (at_version s v) s.loading offset text f))
      (version_leaf s.version mark (CData offset text) f)
      ((takes_text reads files p.here p.before s.loading p.opens (outer f) mark (inner f) offset text).1)

  module _ (p : Place_in) (l : Loading) (offset : ℕ) (text : List ℕ) (f : Future) where
    abbrev on : Listed → Does Listed
    on r = resume reads files p.here (p.before ++ r.items) r.loading p.opens f

    -- white space counts for nothing
    pub blank_text : (list_all is_space text && not (keeps_space p.here.inside)) ≡ true → behind_text p l offset text f ≡ goes_on reads files p l f
    blank_text e =
        ap (λ b. and_then (if b then Ret (listed [] l) else if allows_text p.here.inside then Ret (listed (text_item reads files p.here offset text p.here.inside) l) else refused p.here p.here.at code.Misplaced) on) e
        ∙ ap (λ items. resume reads files p.here items l p.opens f) (append-nil p.before)

    -- a text stands where none may
    pub refused_text : (list_all is_space text && not (keeps_space p.here.inside)) ≡ false → allows_text p.here.inside ≡ false → behind_text p l offset text f ≡ Halt (Refused (place p.here p.here.at) code.Misplaced)
    refused_text e g =
        ap (λ b. and_then (if b then Ret (listed [] l) else if allows_text p.here.inside then Ret (listed (text_item reads files p.here offset text p.here.inside) l) else refused p.here p.here.at code.Misplaced) on) e
        ∙ ap (λ b. and_then (if b then Ret (listed (text_item reads files p.here offset text p.here.inside) l) else refused p.here p.here.at code.Misplaced) on) g

    -- a text is an item
    pub taken_text : (list_all is_space text && not (keeps_space p.here.inside)) ≡ false → allows_text p.here.inside ≡ true → behind_text p l offset text f ≡ goes_on reads files (place_with (text_item reads files p.here offset text p.here.inside) p) l f
    taken_text e g =
        ap (λ b. and_then (if b then Ret (listed [] l) else if allows_text p.here.inside then Ret (listed (text_item reads files p.here offset text p.here.inside) l) else refused p.here p.here.at code.Misplaced) on) e
        ∙ ap (λ b. and_then (if b then Ret (listed (text_item reads files p.here offset text p.here.inside) l) else refused p.here p.here.at code.Misplaced) on) g
