-- What an element comes to where it stands.
use Rattle.std.proofs.Common.{◌≡◌, true, false, not, List, Option, Some, None, refl, ap, if◌then◌else◌}
use Rattle.std.specs.Option.{option_map_or}
use Rattle.stx_base.specs.declared.fault.SheetCode.{SheetCode}
use Rattle.stx_base.specs.declared.fault.SheetCode.TheVariants as code
use Rattle.stx_base.specs.declared.node.First.{First}
use Rattle.xml_events.specs.Document.{inner, outer}
use Rattle.xml_events.specs.Tree.{Element, Forest, Future, Ready}
use Rattle.sheet_loader.proofs.Resuming.{takes_element}
use Rattle.sheet_loader.specs.Elements.{Inside, Document, Declarations, Start_of_body, Body, Branches, With_params, Characters, Parts, Nothing, Kind, allows_literals, kind_named}
use Rattle.sheet_loader.specs.Events.{begins, then_next}
use Rattle.sheet_loader.specs.Judging.{fault_of, is_stx, is_transform_named, values}
use Rattle.sheet_loader.specs.Read.{copied, element_of, good, judged, known, literal, literal_judged, templates}
use Rattle.sheet_loader.specs.Reading.{Context, File, Item, Loading, refused}
use Rattle.sheet_loader.specs.Remaining.{Reads_on, Stage, place_of, remaining}
use Rattle.sheet_loader.specs.Resuming.{SameAnswer}
use Rattle.sheet_loader.specs.Sound.{is_document, is_of_parts}
use Rattle.sheet_loader.specs.Tags.{path_fault}
use Rattle.sheet_loader.specs.Values.{Reads}

module _ (reads : Reads) (files : List (Option File)) where
  pub element_comes : (s : Stage) (e : Element) (first : First) (f : Future)
      → let p = place_of files s (begins e first f) in
      SameAnswer reads files (remaining reads files (Reads_on s) (begins e first f)) (then_next reads files p (element_of reads files p.here p.before e (inner f) p.here.inside s.loading) f)
  element_comes s e first f =
      let p = place_of files s (begins e first f) in
      takes_element reads files p.here p.before s.loading p.opens (outer (outer f)) (Ready first) e (inner f) (inner (outer f))

  module _ (here : Context) (before : List Item) (e : Element) (kids : Forest) (l : Loading) where
    -- the root of a file
    pub root_of : (i : Inside) → is_document i ≡ true → element_of reads files here before e kids i l ≡ (if is_transform_named e.name then known reads files here before e kids (kind_named e.name.local) l else refused here e.offset code.NotStx)
    root_of (Document b) h = refl
    root_of (Declarations b) h = cc
    root_of Start_of_body h = cc
    root_of Body h = cc
    root_of Branches h = cc
    root_of With_params h = cc
    root_of (Characters b) h = cc
    root_of Parts h = cc
    root_of Nothing h = cc

    -- an element within a file's root
    pub inner_of_root : (i : Inside) → is_document i ≡ false → element_of reads files here before e kids i l ≡ (if is_stx e.name then known reads files here before e kids (kind_named e.name.local) l else literal_judged reads files here before e kids i l)
    inner_of_root (Document b) h = cc
    inner_of_root (Declarations b) h = refl
    inner_of_root Start_of_body h = refl
    inner_of_root Body h = refl
    inner_of_root Branches h = refl
    inner_of_root With_params h = refl
    inner_of_root (Characters b) h = refl
    inner_of_root Parts h = refl
    inner_of_root Nothing h = refl

    -- an element that is none of the language
    pub part_of : (i : Inside) → is_of_parts i ≡ true → literal_judged reads files here before e kids i l ≡ copied reads files here e kids l
    part_of (Document b) h = cc
    part_of (Declarations b) h = cc
    part_of Start_of_body h = cc
    part_of Body h = cc
    part_of Branches h = cc
    part_of With_params h = cc
    part_of (Characters b) h = cc
    part_of Parts h = refl
    part_of Nothing h = cc

    pub literal_of : (i : Inside) → is_of_parts i ≡ false → literal_judged reads files here before e kids i l
        ≡ (if not (allows_literals i) then refused here e.offset code.Misplaced else option_map_or (λ why. refused here e.offset why) (path_fault (templates reads files here e)) (literal reads files here before e kids l))
    literal_of (Document b) h = refl
    literal_of (Declarations b) h = refl
    literal_of Start_of_body h = refl
    literal_of Body h = refl
    literal_of Branches h = refl
    literal_of With_params h = refl
    literal_of (Characters b) h = refl
    literal_of Parts h = cc
    literal_of Nothing h = refl

    -- an element of the language with a fault, and one without
    pub known_refused : (kind : Kind) (why : SheetCode) → fault_of reads here before l.sheet e kind ≡ Some why → known reads files here before e kids (Some kind) l ≡ refused here e.offset why
    known_refused kind why h = ap (λ o. judged reads files here before e kids kind o l) h

    pub known_good : (kind : Kind) → fault_of reads here before l.sheet e kind ≡ None → known reads files here before e kids (Some kind) l ≡ good reads files here before e kids kind (values reads here kind e) l
    known_good kind h = ap (λ o. judged reads files here before e kids kind o l) h
