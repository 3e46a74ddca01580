-- The list of an element of the language is taken off.
use Rattle.std.proofs.Common.{◌≡◌, ℕ, Bool, true, false, ◌||◌, List, [], ◌∷◌, ◌++◌, map, take, drop, Option, refl, ap, sym, ◌∙◌}
use Rattle.std.proofs.Math.Seq.{drop-nil}
use Rattle.std.proofs.lemmas.List.{append-nil}
use Rattle.std.specs.Option.{option_map}
use Rattle.stxpath_syntax.specs.declared.dialect.Dialect.TheVariants.{One}
use Rattle.stx_base.specs.declared.fault.Place.{Place}
use Rattle.xml_events.specs.Tree.{Element, End, Future, Mark}
use Rattle.sheet_loader.proofs.Behind.{same_behind}
use Rattle.sheet_loader.proofs.ElementEnds.{ends_there}
use Rattle.sheet_loader.proofs.Ends.{end_comes}
use Rattle.sheet_loader.proofs.Leaving.{known_anywhere, left, sound_left}
use Rattle.sheet_loader.proofs.PartEnds.{parts_of_list}
use Rattle.sheet_loader.specs.Drafts.{frames_of, items_in, levels_in, loading_of}
use Rattle.sheet_loader.specs.Elements as element
use Rattle.sheet_loader.specs.Elements.{Before, Inside, Document, Declarations, Start_of_body, Body, Branches, With_params, Characters, Parts, Nothing, inside_of as list_inside, is_allowed, is_buffer}
use Rattle.sheet_loader.specs.Events.{stage_within}
use Rattle.sheet_loader.specs.Gathering.{values_in}
use Rattle.sheet_loader.specs.Judging.{is_declared_here, scope_at}
use Rattle.sheet_loader.specs.Keys.{own_of}
use Rattle.sheet_loader.specs.Known.{known}
use Rattle.sheet_loader.specs.Levels.{Place_in, place_in}
use Rattle.sheet_loader.specs.Making.{bare, behind, name, nameless, parts}
use Rattle.sheet_loader.specs.Meant.{before_of, inside_of, item_of, kind_of, version_of}
use Rattle.sheet_loader.specs.Read.{has_select}
use Rattle.sheet_loader.specs.Reading as reading
use Rattle.sheet_loader.specs.Reading.{File}
use Rattle.sheet_loader.specs.Remaining.{Reads_on, remaining, version_by}
use Rattle.sheet_loader.specs.Resuming.{SameAnswer}
use Rattle.sheet_loader.specs.Sound.{IsSound, IsSoundWithin, is_of_parts}
use Rattle.sheet_loader.specs.Values.{Reads}
use Rattle.sheet_loader.specs.Versions.{Version}
use Rattle.sheet_loader.specs.declared.declared.Own.{Own}
use Rattle.sheet_loader.specs.declared.draft.Draft.{Draft}
use Rattle.sheet_loader.specs.declared.frame.Frame.{Frame}
use Rattle.sheet_loader.specs.declared.frame.Opened.TheVariants as opened
use Rattle.sheet_loader.specs.declared.kind.Kind.{Kind}
use Rattle.sheet_loader.specs.declared.register.Register.{Register}
use Rattle.sheet_loader.specs.declared.values.Values.{Values}

-- only a buffer's list holds parts
without_parts : (i : Inside) (kind : element.Kind) (s : Bool) → is_buffer kind ≡ false → is_of_parts (list_inside i kind s) ≡ false
without_parts i element.Buffer s e = cc
without_parts i element.Attribute true e = refl
without_parts i element.Attribute false e = refl
without_parts i element.Comment true e = refl
without_parts i element.Comment false e = refl
without_parts i element.Instruction true e = refl
without_parts i element.Instruction false e = refl
without_parts i element.Message true e = refl
without_parts i element.Message false e = refl
without_parts i other s e = refl

buffer_declared : (i : Inside) (b : Before) → is_allowed i b element.Buffer ≡ true → is_declared_here i ≡ true
buffer_declared (Document c) b e = cc
buffer_declared (Declarations c) b e = refl
buffer_declared Start_of_body b e = cc
buffer_declared Body element.Something e = cc
buffer_declared Body element.After_if e = cc
buffer_declared Body element.After_otherwise e = cc
buffer_declared Branches element.Something e = cc
buffer_declared Branches element.After_if e = cc
buffer_declared Branches element.After_otherwise e = cc
buffer_declared With_params b e = cc
buffer_declared (Characters c) b e = cc
buffer_declared Parts b e = cc
buffer_declared Nothing b e = cc

unlike : true ≡ false → ⊥
unlike e = cc

-- a buffer stands among declarations alone
no_buffer : (i : Inside) (b : Before) (kind : element.Kind) → is_allowed i b kind ≡ true → is_declared_here i ≡ false → is_buffer kind ≡ false
no_buffer i b element.Buffer e d = absurd (unlike (sym (buffer_declared i b e) ∙ d))
no_buffer i b other e d = refl

module _ (f0 : Frame) (d : Draft) (r : Register) (kind : Kind) (v : Values) (own : Own) where
  -- the list within, which is that of an element of the language
  abbrev pub element_frame : Frame
  element_frame = record f0 { opened = opened.Element kind v own }

  abbrev v0 : Version
  v0 = record { dialect = One; is_known = false }

  -- the start tag of the element
  abbrev pub its_place : Place
  its_place = record { file = d.file.number; offset = f0.at }

  module _ (sound : IsSoundWithin element_frame d) (leaves : known r ≡ record (known d.register) { locals = take f0.locals (known d.register).locals }) where
    abbrev pub outer : Draft
    outer = left element_frame d r

    from_start : f0.parts ≡ 0
    from_start = (sound.frames.0 [] [] v0).stands.0

    pub no_parts_left : take f0.parts d.parts ≡ []
    no_parts_left = ap (λ n. take n d.parts) from_start

    pub none_but_buffer : is_buffer (kind_of kind) ≡ false → d.parts ≡ []
    none_but_buffer e =
        let q = place_in [] [] v0 (levels_in (frames_of d) outer.file outer.parts) in
        (sound.frames.0 [] [] v0).no_parts (without_parts q.here.inside (kind_of kind) (has_select (values_in v)) e)

    -- what the list came to
    abbrev pub items_at_end : List reading.Item
    items_at_end = items_in element_frame d.parts

    pub items_alone : is_buffer (kind_of kind) ≡ false → items_at_end ≡ map item_of f0.items
    items_alone e =
        ap (λ q. map item_of f0.items ++ map reading.A_part (drop f0.parts q)) (none_but_buffer e)
        ∙ ap (λ q. map item_of f0.items ++ map reading.A_part q) (drop-nil f0.parts) ∙ append-nil (map item_of f0.items)

    pub parts_at_end : parts items_at_end ≡ d.parts
    parts_at_end = parts_of_list f0.items (drop f0.parts d.parts) ∙ ap (λ n. drop n d.parts) from_start

    pub sound_outer : IsSound outer
    sound_outer = sound_left element_frame d r sound leaves (known_anywhere d.top.opened d.file.version sound.version) sound.files

    -- where the element stands
    abbrev pub place_around : List (List ℕ) → List (Option File) → Version → Place_in
    place_around names files version = place_in names files version (levels_in (frames_of d) outer.file outer.parts)

    abbrev pub its_tag : Element
    its_tag = record { offset = f0.at; name = nameless; attrs = []; decls = drop f0.around d.file.scope }

    pub group_around : (names : List (List ℕ)) (files : List (Option File)) (version : Version) → d.top.group ≡ (place_around names files version).here.group
    group_around names files version = (sound.frames.1.0 names files version).group

    pub its_place_is : (names : List (List ℕ)) (files : List (Option File)) (version : Version) → reading.place (place_around names files version).here f0.at ≡ its_place
    its_place_is names files version = ap (λ n. record its_place { file = n }) (sym (sound.frames.0 names files version).number)

    pub its_scope_is : (names : List (List ℕ)) (files : List (Option File)) (version : Version) → scope_at (place_around names files version).here its_tag ≡ d.file.scope
    its_scope_is names files version = sym (sound.frames.0 names files version).scope

    pub its_own : (names : List (List ℕ)) (files : List (Option File)) (version : Version) → (element.makes_group (kind_of kind) || element.is_include (kind_of kind)) ≡ false → own_of own ≡ record { group = d.top.group; name = bare (name (values_in v)) }
    its_own names files version e =
        (sound.frames.0 names files version).stands.1 e ∙ ap (λ g. record { group = g; name = bare (name (values_in v)) }) (sym (group_around names files version))

    pub its_inside : (names : List (List ℕ)) (files : List (Option File)) (version : Version) → is_declared_here (inside_of d.top.inside) ≡ is_declared_here (place_around names files version).here.inside
    its_inside names files version =
        let q = place_around names files version in
        ap is_declared_here (sound.frames.1.0 names files version).inside ∙ same_behind is_declared_here refl q.before q.here.inside

    pub is_allowed_there : is_allowed (inside_of d.top.inside) (before_of d.top.before) (kind_of kind) ≡ true
    is_allowed_there =
        let q = place_around [] [] v0 in
        ap (λ i. is_allowed i (before_of d.top.before) (kind_of kind)) (sound.frames.1.0 [] [] v0).inside
        ∙ ap (λ b. is_allowed (behind q.here.inside q.before) b (kind_of kind)) (sound.frames.1.0 [] [] v0).before
        ∙ (sound.frames.0 [] [] v0).stands.2

    pub is_no_buffer : is_declared_here (inside_of d.top.inside) ≡ false → is_buffer (kind_of kind) ≡ false
    is_no_buffer e = no_buffer (inside_of d.top.inside) (before_of d.top.before) (kind_of kind) is_allowed_there e

    -- what its end comes to
    pub element_end_comes : (reads : Reads) (files : List (Option File)) (mark : Mark) (offset : ℕ) (f : Future)
        → SameAnswer reads files (remaining reads files (Reads_on (stage_within element_frame d)) (End mark offset ∷ f))
        (ends_there reads files (place_around (loading_of d).sheet.files files (version_by (option_map version_of d.file.version) (End mark offset ∷ f))) its_tag (kind_of kind) (values_in v) items_at_end (loading_of d) f)
    element_end_comes reads files mark offset f = end_comes reads files (stage_within element_frame d) mark offset f
