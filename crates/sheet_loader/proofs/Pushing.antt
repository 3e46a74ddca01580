-- A list within the innermost one: its level stands before those around it.
use Rattle.std.proofs.Common.{◌≡◌, ℕ, List, [], ◌∷◌, ◌++◌, Option, drop, map, take, reverse, refl, ap, sym, ◌∙◌}
use Rattle.std.proofs.Math.Path.{subst}
use Rattle.std.proofs.lemmas.List.{reverse-append}
use Rattle.stx_base.specs.declared.name.Name.{Name}
use Rattle.stx_base.specs.declared.part.Part.{Part}
use Rattle.sheet_loader.specs.Drafts.{file_around, level_in, levels_in, parts_around, what_in}
use Rattle.sheet_loader.specs.Elements.{Inside, Document, Declarations, Start_of_body, Body, Branches, With_params, Characters, Parts, Nothing}
use Rattle.sheet_loader.specs.Levels.{Level, Place_in, entered, place_in, version_around}
use Rattle.sheet_loader.specs.Making.{behind}
use Rattle.sheet_loader.specs.Meant.{item_of}
use Rattle.sheet_loader.specs.Reading as reading
use Rattle.sheet_loader.specs.Reading.{File}
use Rattle.sheet_loader.specs.Sound.{AreFit, IsFit}
use Rattle.sheet_loader.specs.Versions.{Version}
use Rattle.sheet_loader.specs.declared.frame.Frame.{Frame}
use Rattle.sheet_loader.specs.declared.frame.OpenFile.{OpenFile}

-- the frames below, turned round, with the one that was innermost before
pub turned : {A : Type 0} (below : List A) (top : A) → reverse (below ++ top ∷ []) ≡ top ∷ reverse below
turned below top = reverse-append below (top ∷ [])

-- behind nothing stands what a list may hold from its beginning
pub behind_none : (i : Inside) → behind i [] ≡ i
behind_none (Document b) = refl
behind_none (Declarations b) = refl
behind_none Start_of_body = refl
behind_none Body = refl
behind_none Branches = refl
behind_none With_params = refl
behind_none (Characters b) = refl
behind_none Parts = refl
behind_none Nothing = refl

module _ (f : Frame) (frames : List Frame) (file around : OpenFile) (parts before : List Part) (locals outer : List Name) where
  -- the level of a list in which nothing stands yet
  abbrev pub fresh : Level
  fresh = record (level_in f file parts) { before = [] }

  pub level_fresh : f.items ≡ [] → drop f.parts parts ≡ [] → level_in f file parts ≡ fresh
  level_fresh e g =
      ap (λ l. record fresh { before = map item_of l ++ map reading.A_part (drop f.parts parts) }) e
      ∙ ap (λ l. record fresh { before = map reading.A_part l }) g

  pub pushed_levels : f.items ≡ [] → drop f.parts parts ≡ [] → file_around f.opened f.around file ≡ around → parts_around f.opened f.parts parts ≡ before
      → levels_in (f ∷ frames) file parts ≡ fresh ∷ levels_in frames around before
  pushed_levels i d e g =
      ap (λ x. x ∷ levels_in frames (file_around f.opened f.around file) (parts_around f.opened f.parts parts)) (level_fresh i d)
      ∙ ap (λ x. fresh ∷ levels_in frames x (parts_around f.opened f.parts parts)) e
      ∙ ap (λ x. fresh ∷ levels_in frames around x) g

  abbrev pub around_fresh : List (List ℕ) → List (Option File) → Version → Place_in
  around_fresh names files version = place_in names files (version_around version (what_in f.opened f.parts file parts)) (levels_in frames around before)

  pub pushed_fit : f.items ≡ [] → drop f.parts parts ≡ [] → file_around f.opened f.around file ≡ around → parts_around f.opened f.parts parts ≡ before → take f.locals locals ≡ outer
      → ((names : List (List ℕ)) (files : List (Option File)) (version : Version) → IsFit f frames file parts locals (entered names files version fresh.what fresh (around_fresh names files version)) (around_fresh names files version))
      → AreFit frames around before outer
      → AreFit (f ∷ frames) file parts locals
  pushed_fit i d e g h fit outer_fit = (
    λ names files version.
        subst (λ (z : OpenFile). IsFit f frames file parts locals
        (entered names files version (level_in f file parts).what (level_in f file parts) (place_in names files (version_around version (level_in f file parts).what) (levels_in frames z (parts_around f.opened f.parts parts))))
        (place_in names files (version_around version (level_in f file parts).what) (levels_in frames z (parts_around f.opened f.parts parts))))
        (sym e)
        (subst (λ (z : List Part). IsFit f frames file parts locals
        (entered names files version (level_in f file parts).what (level_in f file parts) (place_in names files (version_around version (level_in f file parts).what) (levels_in frames around z)))
        (place_in names files (version_around version (level_in f file parts).what) (levels_in frames around z)))
        (sym g)
        (subst (λ (x : Level). IsFit f frames file parts locals (entered names files version x.what x (place_in names files (version_around version x.what) (levels_in frames around before))) (place_in names files (version_around version x.what) (levels_in frames around before)))
        (sym (level_fresh i d)) (fit names files version))),
    subst (λ x. AreFit frames x (parts_around f.opened f.parts parts) (take f.locals locals)) (sym e)
        (subst (λ x. AreFit frames around x (take f.locals locals)) (sym g)
        (subst (λ x. AreFit frames around before x) (sym h) outer_fit)),
  )
