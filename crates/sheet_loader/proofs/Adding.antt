-- The innermost list with an item more.
use Rattle.std.proofs.Common.{◌≡◌, ℕ, ◌≤◌, true, false, List, [], ◌∷◌, ◌++◌, length, map, take, drop, Option, refl, ap, sym, ◌∙◌}
use Rattle.std.proofs.Math.Path.{subst}
use Rattle.std.proofs.Math.Seq.{drop-nil}
use Rattle.std.proofs.lemmas.Grind.{flat_map-append}
use Rattle.std.proofs.lemmas.List.{append-nil}
use Rattle.std.specs.List.{list_any}
use Rattle.stxpath_syntax.specs.declared.dialect.Dialect.TheVariants.{One}
use Rattle.stx_base.specs.declared.name.Name.{Name}
use Rattle.stx_base.specs.declared.part.Part.{Part}
use Rattle.sheet_model.specs.Names.{is_among, is_same}
use Rattle.sheet_loader.proofs.Behind.{behind_more, last_more, same_behind}
use Rattle.sheet_loader.proofs.Places.{entered_with, place_with}
use Rattle.sheet_loader.specs.Drafts.{file_around, level_in, levels_in, parts_around}
use Rattle.sheet_loader.specs.Judging.{locals_at}
use Rattle.sheet_loader.specs.Keys.{names_in}
use Rattle.sheet_loader.specs.Known.{AreGiven}
use Rattle.sheet_loader.specs.Levels.{Level, Place_in, entered, place_in, version_around}
use Rattle.sheet_loader.specs.Making.{behind, last_of, local_of_item, locals_of, values_of_item, with_params}
use Rattle.sheet_loader.specs.Meant.{before_of, inside_of, item_of}
use Rattle.sheet_loader.specs.Reading as reading
use Rattle.sheet_loader.specs.Reading.{Context, File}
use Rattle.sheet_loader.specs.Sound.{AreFit, IsFit, is_of_parts, is_outside}
use Rattle.sheet_loader.specs.Versions.{Version}
use Rattle.sheet_loader.specs.declared.frame.Frame.{Frame}
use Rattle.sheet_loader.specs.declared.frame.OpenFile.{OpenFile}
use Rattle.sheet_loader.specs.declared.inside.Before.{Before}
use Rattle.sheet_loader.specs.declared.inside.Inside.{Inside}
use Rattle.sheet_loader.specs.declared.item.Item.{Item}
use Rattle.sheet_loader.specs.declared.names.NameSet.{NameSet}

-- where there are no parts, none are behind a place
no_drop : (n : ℕ) (l : List reading.Item) → l ++ map reading.A_part (drop n []) ≡ l
no_drop n l = ap (λ q. l ++ map reading.A_part q) (drop-nil n) ∙ append-nil l

-- a list that has other items
abbrev pub changed : Frame → Inside → List Item → Before → NameSet → Frame
changed f i items b s = record f { inside = i; items = items; before = b; given = s }

absurd_bool : true ≡ false → ⊥
absurd_bool e = cc

module _ (f : Frame) (frames : List Frame) (file : OpenFile) (parts : List Part) (locals more : List Name) (x : reading.Item) (i : Inside) (items : List Item) (b : Before) (s : NameSet) where
  pub fit_more : (p around : Place_in) → IsFit f frames file parts locals p around
      → inside_of i ≡ behind (inside_of f.inside) (x ∷ [])
      → before_of b ≡ last_of (x ∷ [])
      → AreGiven (names_in s) (p.before ++ x ∷ [])
      → ((n : Name) → is_among more n ≡ is_among (locals_at p.here (p.before ++ x ∷ [])) n)
      → f.locals ≤ length more
      → is_outside p.here.inside ≡ false
      → is_of_parts p.here.inside ≡ false
      → IsFit (changed f i items b s) frames file parts more (place_with (x ∷ []) p) around
  fit_more p around fit inside before given names brought inner apart = record {
    stands = fit.stands;
    bottom = fit.bottom;
    inside = inside ∙ ap (λ k. behind k (x ∷ [])) fit.inside ∙ sym (behind_more p.here.inside p.before (x ∷ []));
    before = before ∙ sym (last_more p.before x);
    at = fit.at;
    group = fit.group;
    pass = fit.pass;
    number = fit.number;
    scope = fit.scope;
    declared = fit.declared;
    given = given;
    locals = names;
    brought = brought;
    outside = λ e. absurd (absurd_bool (sym e ∙ inner));
    parts = fit.parts;
    no_parts = fit.no_parts;
    parts_alone = λ e. absurd (absurd_bool (sym e ∙ apart));
  }

  -- the level of the list has the item too, where no parts stand
  pub level_more : map item_of items ≡ map item_of f.items ++ x ∷ [] → parts ≡ [] → level_in (changed f i items b s) file parts ≡ record (level_in f file parts) { before = (level_in f file parts).before ++ x ∷ [] }
  level_more e none =
      ap (λ l. record (level_in f file parts) { before = l })
      (ap (λ q. map item_of items ++ map reading.A_part (drop f.parts q)) none
      ∙ no_drop f.parts (map item_of items)
      ∙ e
      ∙ ap (λ l. l ++ x ∷ []) (sym (no_drop f.parts (map item_of f.items)))
      ∙ ap (λ q. (map item_of f.items ++ map reading.A_part (drop f.parts q)) ++ x ∷ []) (sym none))

-- an item that brings no name into scope
pub plain_locals : (here : Context) (before : List reading.Item) (x : reading.Item) → local_of_item x ≡ [] → locals_at here (before ++ x ∷ []) ≡ locals_at here before
plain_locals here before x e =
    ap (λ l. here.locals ++ l) (flat_map-append local_of_item before (x ∷ []) ∙ ap (λ l. locals_of before ++ (l ++ [])) e ∙ append-nil (locals_of before))

-- an item that gives a parameter no value
pub plain_given : (given : List Name) (before : List reading.Item) (x : reading.Item) → values_of_item x ≡ [] → AreGiven given before → AreGiven given (before ++ x ∷ [])
plain_given given before x e h = λ n. h n ∙ ap (list_any (λ p. is_same p.name n)) (sym (flat_map-append values_of_item before (x ∷ []) ∙ ap (λ l. with_params before ++ (l ++ [])) e ∙ append-nil (with_params before)))

-- where a list stands, by its frame
module _ (top : Frame) (frames : List Frame) (file : OpenFile) (parts : List Part) (locals : List Name) where
  abbrev pub around_of : List (List ℕ) → List (Option File) → Version → Place_in
  around_of names files version = place_in names files (version_around version (level_in top file parts).what) (levels_in frames (file_around top.opened top.around file) (parts_around top.opened top.parts parts))

  abbrev pub inner_of : List (List ℕ) → List (Option File) → Version → Place_in
  inner_of names files version = entered names files version (level_in top file parts).what (level_in top file parts) (around_of names files version)

  -- no parts stand but in a buffer's content
  pub none_of : AreFit (top ∷ frames) file parts locals → is_of_parts (inside_of top.inside) ≡ false → parts ≡ []
  none_of fit e =
      let h = fit.0 [] [] (record { dialect = One; is_known = false }) in
      let p = inner_of [] [] (record { dialect = One; is_known = false }) in
      h.no_parts (sym (ap is_of_parts h.inside ∙ same_behind is_of_parts refl p.before p.here.inside) ∙ e)

  module _ (more : List Name) (x : reading.Item) (i : Inside) (items : List Item) (b : Before) (s : NameSet) where
    -- the innermost list has an item more
    pub fit_added : AreFit (top ∷ frames) file parts locals
        → inside_of i ≡ behind (inside_of top.inside) (x ∷ [])
        → before_of b ≡ last_of (x ∷ [])
        → map item_of items ≡ map item_of top.items ++ x ∷ []
        → ((before : List reading.Item) → AreGiven (names_in top.given) before → AreGiven (names_in s) (before ++ x ∷ []))
        → ((here : Context) (before : List reading.Item) → ((n : Name) → is_among locals n ≡ is_among (locals_at here before) n) → (n : Name) → is_among more n ≡ is_among (locals_at here (before ++ x ∷ [])) n)
        → top.locals ≤ length more
        → take top.locals more ≡ take top.locals locals
        → is_outside (inside_of top.inside) ≡ false
        → is_of_parts (inside_of top.inside) ≡ false
        → AreFit (changed top i items b s ∷ frames) file parts more
    fit_added fit inside before items_are given names brought kept inner no_parts = (
      λ file_names files version.
          let around = around_of file_names files version in
          let p = inner_of file_names files version in
          let h = fit.0 file_names files version in
          let o = sym (ap is_outside h.inside ∙ same_behind is_outside refl p.before p.here.inside) ∙ inner in
          let a = sym (ap is_of_parts h.inside ∙ same_behind is_of_parts refl p.before p.here.inside) ∙ no_parts in
          subst (λ (l : Level). IsFit (changed top i items b s) frames file parts more (entered file_names files version l.what l around) around)
          (sym (level_more top frames file parts locals more x i items b s items_are (none_of fit no_parts)))
          (subst (λ q. IsFit (changed top i items b s) frames file parts more q around) (sym (entered_with file_names files version (level_in top file parts).what (level_in top file parts) (x ∷ []) around))
          (fit_more top frames file parts locals more x i items b s p around h inside before (given p.before h.given) (names p.here p.before h.locals) brought o a)),
      subst (λ l. AreFit frames (file_around top.opened top.around file) (parts_around top.opened top.parts parts) l) (sym kept) fit.1,
    )
