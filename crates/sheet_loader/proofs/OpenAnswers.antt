-- What a tag without faults comes to: its element is open, or an include's file is wanted.
use Rattle.std.proofs.Common.{◌≡◌, ℕ, ◌≤◌, ◌-◌, Bool, true, false, List, [], ◌∷◌, ◌++◌, length, Option, None, is_some, refl, ap, sym, ◌∙◌, codes, if◌then◌else◌}
use Rattle.std.proofs.Math.Path.{subst}
use Rattle.stx_base.specs.declared.fault.Place.{Place}
use Rattle.stx_base.specs.declared.name.Name.{Name}
use Rattle.stx_base.specs.declared.node.First.{First}
use Rattle.sheet_model.specs.declared.pass.Pass.{Pass}
use Rattle.xml_events.specs.Document.{inner, outer}
use Rattle.xml_events.specs.Tree.{Element, Future}
use Rattle.sheet_loader.proofs.Behind.{same_behind}
use Rattle.sheet_loader.proofs.ElementStarts.{IsOpened, element_list, element_place, element_start_goes, element_start_sound}
use Rattle.sheet_loader.proofs.Entering.{Entered, StandsAt}
use Rattle.sheet_loader.proofs.Including.{include_comes}
use Rattle.sheet_loader.proofs.Resuming.{equal_answer, opens_element}
use Rattle.sheet_loader.proofs.Roots.{own_makes}
use Rattle.sheet_loader.proofs.TagPlaces.{file_here, group_here, inside_here, pass_here}
use Rattle.sheet_loader.specs.Drafts.{before_tag, element_of, loading_of}
use Rattle.sheet_loader.specs.Elements as element
use Rattle.sheet_loader.specs.Elements.{is_allowed, is_include, is_own, makes_group}
use Rattle.sheet_loader.specs.Events.{Kept, begins, place_at, progress_behind, stage_of, then_next, wanted_by}
use Rattle.sheet_loader.specs.Gathering.{values_in}
use Rattle.sheet_loader.specs.Keys.{name_of, names_in, own_of}
use Rattle.sheet_loader.specs.Known.{Declares, Known, Knows, known, refers_to, within_loop}
use Rattle.sheet_loader.specs.Levels.{Place_in}
use Rattle.sheet_loader.specs.Making as making
use Rattle.sheet_loader.specs.Making.{as_word, bare, name, nameless, value_at}
use Rattle.sheet_loader.specs.Meant.{before_of, inside_of, kind_of}
use Rattle.sheet_loader.specs.Named.{IsApart, WantsFile, is_being_read}
use Rattle.sheet_loader.specs.Read.{good, group_within, has_select}
use Rattle.sheet_loader.specs.Reading.{Does, File, Listed, Loading}
use Rattle.sheet_loader.specs.References.{Reference}
use Rattle.sheet_loader.specs.Referring.{references}
use Rattle.sheet_loader.specs.Remaining.{Wants_file, file_then, remaining}
use Rattle.sheet_loader.specs.Resuming.{Of_element, SameAnswer, opened}
use Rattle.sheet_loader.specs.Sound.{IsInclude, IsSound}
use Rattle.sheet_loader.specs.Values.{Reads}
use Rattle.sheet_loader.specs.declared.declared.Own.{Own}
use Rattle.sheet_loader.specs.declared.draft.Draft.{Draft}
use Rattle.sheet_loader.specs.declared.element.StartTag.{StartTag}
use Rattle.sheet_loader.specs.declared.inside.Inside.{Inside}
use Rattle.sheet_loader.specs.declared.kind.Kind.{Kind}
use Rattle.sheet_loader.specs.declared.names.NameSet.{NameSet}
use Rattle.sheet_loader.specs.declared.register.Register.{Register}
use Rattle.sheet_loader.specs.declared.values.Values.{Values}

-- what is kept of the values, by what a group and an include take out of them
kept_by : (k : element.Kind) (v mid kept : making.Values)
    → (makes_group k ≡ false → mid ≡ v)
    → (makes_group k ≡ true → value_at (codes "pass-through") mid ≡ value_at (codes "pass-through") v)
    → (is_include k ≡ false → kept ≡ mid)
    → Kept k v kept
kept_by element.Transform v mid kept a b c = ap (value_at (codes "pass-through")) (c refl) ∙ b refl
kept_by element.Group v mid kept a b c = ap (value_at (codes "pass-through")) (c refl) ∙ b refl
kept_by element.Include v mid kept a b c = tt
kept_by other v mid kept a b c = c refl ∙ a refl

wanted_mid : (k : element.Kind) (v mid : making.Values) → (makes_group k ≡ false → mid ≡ v) → wanted_by k mid ≡ wanted_by k v
wanted_mid element.Include v mid a = ap (wanted_by element.Include) (a refl)
wanted_mid other v mid a = refl

no_include : (k : element.Kind) (v : making.Values) → is_include k ≡ false → wanted_by k v ≡ None
no_include element.Include v h = cc
no_include other v h = refl

only_include : (k : element.Kind) → is_include k ≡ true → k ≡ element.Include
only_include element.Include h = refl
only_include other h = cc

loop_locals_of : (k : element.Kind) (n : Name) (a b : Known) → a.locals ≡ b.locals → (within_loop k n a).locals ≡ (within_loop k n b).locals
loop_locals_of element.ForEachItem n a b e = ap (λ (l : List Name). (within_loop element.ForEachItem n (record a { locals = l })).locals) e
loop_locals_of other n a b e = e

loop_declares : (k : element.Kind) (n : Name) (a : Known) → (within_loop k n a).declares ≡ a.declares
loop_declares element.ForEachItem n a = refl
loop_declares other n a = refl

loop_references : (k : element.Kind) (n : Name) (a : Known) → (within_loop k n a).references ≡ a.references
loop_references element.ForEachItem n a = refl
loop_references other n a = refl

module _ (d : Draft) (tag : StartTag) (given : NameSet) (kind : Kind) (v kept : Values) (own : Own) (inside : Inside) (group : ℕ) (pass : Pass) (r : Register) (first : Register) (at : Place) (between : making.Values) (mid new : Draft) where
  abbrev k : element.Kind
  k = kind_of kind

  -- the steps by which the element was opened
  pub record Opening : Type 0 where
    pub sound : IsSound (before_tag d tag.around)
    pub declared : tag.around ≤ length d.file.scope
    pub version : is_some d.file.version ≡ true
    pub allowed : is_allowed (inside_of d.top.inside) (before_of d.top.before) k ≡ true
    pub none : names_in given ≡ []
    pub at_is : at ≡ record { file = d.file.number; offset = tag.offset }
    pub own_is : own_of own ≡ record { group = d.top.group; name = bare (name (values_in v)) }
    pub inside_is : inside_of inside ≡ element.inside_of (inside_of d.top.inside) k (has_select (values_in v))
    pub refers : (files : List (Option File)) (f : Future)
        → let p = place_at files f (before_tag d tag.around) in known first ≡ refers_to (references at p.here p.before (loading_of d).sheet k (values_in v)) (known d.register)
    pub enters : Entered d first k (values_in v) at between group pass mid
    pub brings : known r ≡ within_loop k (name_of own.name) (known mid.register)
    pub is_kept : is_include k ≡ false → values_in kept ≡ between
    pub is : new ≡ record d { register = r; sheet = mid.sheet; top = element_list d tag given kind v kept own inside group pass r; below = new.below }
    pub below : new.below.items ≡ d.below.items ++ d.top ∷ []

  module _ (o : Opening) where
    name_is : name_of own.name ≡ bare (name (values_in v))
    name_is = ap (λ x. x.name) o.own_is

    opened_is : IsOpened d tag given kind v kept own inside group pass r
    opened_is = record {
      sound = o.sound;
      declared = o.declared;
      allowed = o.allowed;
      none = o.none;
      is_kept = kept_by k (values_in v) between (values_in kept) o.enters.kept_all o.enters.kept_pass o.is_kept;
      inside_is = o.inside_is;
      group_is = o.enters.group_is;
      pass_is = o.enters.pass_is;
      own_is = o.own_is;
      locals_are =
          ap (λ x. x.locals) o.brings
          ∙ ap (λ (n : Name). (within_loop k n (known mid.register)).locals) name_is
          ∙ loop_locals_of k (bare (name (values_in v))) (known mid.register) (known d.register)
          (o.enters.locals ∙ ap (λ x. x.locals) (o.refers [] []));
    }

    knows_mid : Knows (known mid.register).declares (loading_of mid).sheet
    knows_mid = o.enters.knows (subst (λ (x : Known). Knows x.declares (loading_of d).sheet) (sym (o.refers [] [])) o.sound.declares)

    -- the sheet that was read is that of the draft in which the group is there
    loading_then : Loading
    loading_then = record { sheet = record mid.sheet { files = d.own ∷ mid.sheet.files }; references = (known r).references }

    loading_mid : loading_of mid ≡ record { sheet = record mid.sheet { files = d.own ∷ mid.sheet.files }; references = (known mid.register).references }
    loading_mid = ap loading_of o.enters.others

    knows_new : Knows (known r).declares (record mid.sheet { files = d.own ∷ mid.sheet.files })
    knows_new =
        subst (λ (x : Declares). Knows x (record mid.sheet { files = d.own ∷ mid.sheet.files })) (sym (ap (λ x. x.declares) o.brings ∙ loop_declares k (name_of own.name) (known mid.register)))
        (subst (λ (l : Loading). Knows (known mid.register).declares l.sheet) loading_mid knows_mid)

    pub opening_sound : IsSound new
    opening_sound = element_start_sound d tag given kind v kept own inside group pass r opened_is new mid.sheet o.version o.is o.below knows_new o.enters.files

    pub opening_files : (loading_of new).sheet.files ≡ (loading_of d).sheet.files
    opening_files = ap (λ x. (loading_of x).sheet.files) o.is ∙ ap (λ (l : List (List ℕ)). d.own ∷ l) o.enters.files

    wanted_as : (x : element.Kind) → k ≡ x → IsApart (wanted_by x (values_in v)) d → WantsFile (wanted_by x (values_in v)) (record { file = d.file.number; offset = tag.offset }) new
    wanted_as element.Include e apart = record {
      include = subst (λ (x : Draft). IsInclude x.top.opened) (sym o.is) e;
      empty = ap (λ x. x.top.items) o.is;
      place =
          ap (λ (n : ℕ). let at : Place = record { file = n; offset = tag.offset } in at) (sym (ap (λ x. x.file.number) o.is))
          ∙ ap (λ (n : ℕ). let at : Place = record { file = new.file.number; offset = n } in at) (sym (ap (λ x. x.top.at) o.is));
      fresh = ap (λ (x : Draft). is_being_read x (as_word (value_at (codes "href") (values_in v)))) o.is ∙ apart;
    }
    wanted_as other e apart = tt

    -- the file that is wanted is that of the element
    pub opening_wanted : IsApart (wanted_by k (values_in v)) d → (wanted : Option (List ℕ)) → wanted ≡ wanted_by k between → WantsFile wanted (record { file = d.file.number; offset = tag.offset }) new
    opening_wanted apart wanted w =
        subst (λ (x : Option (List ℕ)). WantsFile x (record { file = d.file.number; offset = tag.offset }) new) (sym (w ∙ wanted_mid k (values_in v) between o.enters.kept_all)) (wanted_as k refl apart)

    module _ (reads : Reads) (files : List (Option File)) (before : First) (f : Future) where
      abbrev e : Element
      e = element_of tag d

      abbrev p : Place_in
      p = place_at files (begins e before f) (before_tag d tag.around)

      own_here : is_own (inside_of d.top.inside) ≡ is_own p.here.inside
      own_here = ap is_own (inside_here d tag.around o.sound files (begins e before f)) ∙ same_behind is_own refl p.before p.here.inside

      stands : StandsAt d at tag.offset k p.here
      stands = record {
        group = group_here d tag.around o.sound files (begins e before f);
        pass = pass_here d tag.around o.sound files (begins e before f);
        own = own_here;
        at_is = o.at_is ∙ ap (λ (n : ℕ). record { file = n; offset = tag.offset }) (sym (file_here d tag.around o.sound files (begins e before f)));
        root = λ h. own_makes (inside_of d.top.inside) (before_of d.top.before) k (own_here ∙ h) o.allowed;
      }

      abbrev so_far : List Reference
      so_far = (loading_of d).references ++ references (record { file = p.here.file; offset = tag.offset }) p.here p.before (loading_of d).sheet k (values_in v)

      references_are : (known r).references ≡ so_far
      references_are =
          ap (λ x. x.references) o.brings
          ∙ loop_references k (name_of own.name) (known mid.register)
          ∙ o.enters.references
          ∙ ap (λ x. x.references) (o.refers files (begins e before f))
          ∙ ap (λ (x : Place). (loading_of d).references ++ references x p.here p.before (loading_of d).sheet k (values_in v)) stands.at_is

      abbrev start : Loading
      start = opened p.here p.before e k (values_in v) (loading_of d)

      loading_is : loading_of new ≡ start
      loading_is =
          ap loading_of o.is
          ∙ ap (λ (l : List Reference). record { sheet = record mid.sheet { files = d.own ∷ mid.sheet.files }; references = l }) references_are
          ∙ ap (λ (l : Loading). record l { references = so_far }) (sym loading_mid)
          ∙ sym (o.enters.begins p.here tag.offset so_far stands)

      same_group : group_within p.here.group group k ≡ group_within p.here.group (length start.sheet.groups - 1) k
      same_group = by_kind (makes_group k) o.enters.last where
        by_kind : (b : Bool) → (b ≡ true → group ≡ length mid.sheet.groups - 1) → (if b then group else p.here.group) ≡ (if b then length start.sheet.groups - 1 else p.here.group)
        by_kind true h = h refl ∙ ap (λ (l : Loading). length l.sheet.groups - 1) (sym (ap loading_of o.is) ∙ loading_is)
        by_kind false h = refl

      abbrev comes : Does Listed
      comes = then_next reads files p (good reads files p.here p.before e (inner f) k (values_in v) (loading_of d)) f

      -- an element that includes nothing is open
      opens : is_include k ≡ false → SameAnswer reads files comes (remaining reads files (progress_behind None new) f)
      opens h =
          equal_answer reads files
          (opens_element reads files p.here p.before (loading_of d) p.opens (outer (outer f)) e (inner f) (inner (outer f)) k (values_in v) h
          ∙ element_start_goes d tag given kind v kept own inside group pass r opened_is new mid.sheet o.version o.is o.below reads files before f (length start.sheet.groups - 1) loading_is opening_files same_group)

      abbrev href : List ℕ
      href = as_word (value_at (codes "href") (values_in v))

      -- an include's file is wanted
      wants : k ≡ element.Include → SameAnswer reads files comes (remaining reads files (Wants_file href (stage_of new)) f)
      wants h =
          equal_answer reads files
          (ap (λ (x : element.Kind). then_next reads files p (good reads files p.here p.before e (inner f) x (values_in v) (loading_of d)) f) h
          ∙ include_comes reads files p.here p.before e (values_in v) (values_in kept) p.opens (loading_of d) f
          ∙ ap (λ (x : element.Kind). file_then reads files (Of_element p.here p.before (record e { name = nameless; attrs = [] }) x (values_in kept) ∷ p.opens) href (opened p.here p.before e x (values_in v) (loading_of d)) f) (sym h)
          ∙ ap (λ (l : Loading). file_then reads files (Of_element p.here p.before (record e { name = nameless; attrs = [] }) k (values_in kept) ∷ p.opens) href l f) (sym loading_is)
          ∙ ap (λ (q : Place_in). file_then reads files q.opens href (loading_of new) f)
          (sym (element_place d tag given kind v kept own inside group pass r opened_is new mid.sheet o.version o.is o.below files before f opening_files)))

      by_include : (b : Bool) → is_include k ≡ b → SameAnswer reads files comes (remaining reads files (progress_behind (wanted_by k (values_in v)) new) f)
      by_include false h = subst (λ (w : Option (List ℕ)). SameAnswer reads files comes (remaining reads files (progress_behind w new) f)) (sym (no_include k (values_in v) h)) (opens h)
      by_include true h =
          subst (λ (w : Option (List ℕ)). SameAnswer reads files comes (remaining reads files (progress_behind w new) f)) (sym (ap (λ x. wanted_by x (values_in v)) (only_include k h))) (wants (only_include k h))

      pub opening_answer : (wanted : Option (List ℕ)) → wanted ≡ wanted_by k between → SameAnswer reads files comes (remaining reads files (progress_behind wanted new) f)
      opening_answer wanted w =
          subst (λ (x : Option (List ℕ)). SameAnswer reads files comes (remaining reads files (progress_behind x new) f)) (sym (w ∙ wanted_mid k (values_in v) between o.enters.kept_all))
          (by_include (is_include k) refl)
