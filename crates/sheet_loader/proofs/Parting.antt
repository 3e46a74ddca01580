-- The content of a buffer with a part more.
use Rattle.std.proofs.Common.{◌≡◌, ℕ, ◌≤◌, true, false, List, [], ◌∷◌, ◌++◌, length, map, reverse, take, drop, Option, refl, ap, sym, ◌∙◌, arith}
use Rattle.std.proofs.Math.Path.{subst}
use Rattle.std.proofs.lemmas.List.{append_assoc, append-nil, drop-append-le, length-append, map-append, take-append-le}
use Rattle.std.specs.List.{flat_map}
use Rattle.stx_base.specs.declared.name.Name.{Name}
use Rattle.stx_base.specs.declared.part.Part.{Part}
use Rattle.stxpath_syntax.specs.declared.dialect.Dialect.TheVariants.{One}
use Rattle.sheet_model.specs.Names.{is_among}
use Rattle.sheet_loader.proofs.Adding.{around_of, inner_of, plain_given, plain_locals}
use Rattle.sheet_loader.proofs.Behind.{last_more, same_behind}
use Rattle.sheet_loader.proofs.Places.{entered_with, place_with}
use Rattle.sheet_loader.specs.Drafts.{attribute_in, file_around, level_in, levels_in, levels_of, loading_of, parts_around, what_in}
use Rattle.sheet_loader.specs.Elements.{Inside, Document, Declarations, Start_of_body, Body, Branches, With_params, Characters, Parts, Nothing}
use Rattle.sheet_loader.specs.Events.{TakesItems}
use Rattle.sheet_loader.specs.Keys.{names_in}
use Rattle.sheet_loader.specs.Known.{known}
use Rattle.sheet_loader.specs.Levels.{A_part, Level, Place_in, entered, place_in, version_around, with_items}
use Rattle.sheet_loader.specs.Making.{behind}
use Rattle.sheet_loader.specs.Meant.{inside_of, item_of}
use Rattle.sheet_loader.specs.Reading as reading
use Rattle.sheet_loader.specs.Reading.{File}
use Rattle.sheet_loader.specs.Sound.{AreFit, AreStart, IsFit, IsSound, StandsIn, is_of_parts}
use Rattle.sheet_loader.specs.Versions.{Version}
use Rattle.sheet_loader.specs.declared.draft.Draft.{Draft}
use Rattle.sheet_loader.specs.declared.frame.Frame.{Frame}
use Rattle.sheet_loader.specs.declared.frame.OpenFile.{OpenFile}
use Rattle.sheet_loader.specs.declared.frame.Opened.{Opened}
use Rattle.sheet_loader.specs.declared.frame.Opened.TheVariants as opened

different : true ≡ false → ⊥
different e = cc

same_of_parts : (i : Inside) (items : List reading.Item) → is_of_parts i ≡ true → behind i items ≡ i
same_of_parts (Document b) items e = refl
same_of_parts (Declarations b) items e = refl
same_of_parts Start_of_body items e = cc
same_of_parts Body items e = refl
same_of_parts Branches items e = refl
same_of_parts With_params items e = refl
same_of_parts (Characters b) items e = refl
same_of_parts Parts items e = refl
same_of_parts Nothing items e = refl

-- what a list stands in doesn't change by parts behind its beginning
what_more : (o : Opened) (until : ℕ) (file : OpenFile) (parts : List Part) (q : Part) → until ≤ length parts → what_in o until file (parts ++ q ∷ []) ≡ what_in o until file parts
what_more opened.Sheet until file parts q h = refl
what_more (opened.File includer) until file parts q h = refl
what_more (opened.Element kind v own) until file parts q h = refl
what_more (opened.Literal name attrs) until file parts q h = refl
what_more (opened.Part name start) until file parts q h = ap (λ l. A_part name (flat_map attribute_in (drop start l))) (take-append-le until parts (q ∷ []) h)

around_more : (o : Opened) (until : ℕ) (around : Place_in) (frames : List Frame) (parts : List Part) (q : Part) → StandsIn o until parts around frames → until ≤ length parts → parts_around o until (parts ++ q ∷ []) ≡ parts_around o until parts
around_more opened.Sheet until around frames parts q s h = take-append-le until parts (q ∷ []) h
around_more (opened.File includer) until around frames parts q s h = take-append-le until parts (q ∷ []) h
around_more (opened.Element kind v own) until around frames parts q s h = take-append-le until parts (q ∷ []) h
around_more (opened.Literal name attrs) until around frames parts q s h = take-append-le until parts (q ∷ []) h
around_more (opened.Part name start) until around frames parts q s h =
    let le : start ≤ length parts = omega (arith, s.0, h) in take-append-le start parts (q ∷ []) le

stands_more : (o : Opened) (until : ℕ) (around : Place_in) (frames : List Frame) (parts : List Part) (q : Part) → StandsIn o until parts around frames → until ≤ length parts → StandsIn o until (parts ++ q ∷ []) around frames
stands_more opened.Sheet until around frames parts q s h = s
stands_more (opened.File includer) until around frames parts q s h = s
stands_more (opened.Element kind v own) until around frames parts q s h = s
stands_more (opened.Literal name attrs) until around frames parts q s h = s
stands_more (opened.Part name start) until around frames parts q s h = (s.0, subst (λ l. AreStart name (drop start l)) (sym (take-append-le until parts (q ∷ []) h)) s.1, s.2)

module _ (top : Frame) (frames : List Frame) (file : OpenFile) (parts : List Part) (locals : List Name) (q : Part) where
  level_with : top.parts ≤ length parts → level_in top file (parts ++ q ∷ []) ≡ record (level_in top file parts) { before = (level_in top file parts).before ++ reading.A_part q ∷ [] }
  level_with h =
      ap (λ w. record (level_in top file (parts ++ q ∷ [])) { what = w }) (what_more top.opened top.parts file parts q h)
      ∙ ap (λ l. record (level_in top file parts) { before = l }) items
    where
      items : map item_of top.items ++ map reading.A_part (drop top.parts (parts ++ q ∷ [])) ≡ (map item_of top.items ++ map reading.A_part (drop top.parts parts)) ++ reading.A_part q ∷ []
      items =
          ap (λ l. map item_of top.items ++ map reading.A_part l) (drop-append-le top.parts parts (q ∷ []) h)
          ∙ ap (λ l. map item_of top.items ++ l) (map-append reading.A_part (drop top.parts parts) (q ∷ []))
          ∙ sym (append_assoc (map item_of top.items) (map reading.A_part (drop top.parts parts)) (reading.A_part q ∷ []))

  fit_part : (p around : Place_in) → IsFit top frames file parts locals p around → is_of_parts p.here.inside ≡ true → IsFit top frames file (parts ++ q ∷ []) locals (place_with (reading.A_part q ∷ []) p) around
  fit_part p around fit e =
      let n = length-append parts (q ∷ []) in
      record {
        stands = stands_more top.opened top.parts around frames parts q fit.stands fit.parts;
        bottom = fit.bottom;
        inside = fit.inside ∙ same_of_parts p.here.inside p.before e ∙ sym (same_of_parts p.here.inside (p.before ++ reading.A_part q ∷ []) e);
        before = fit.parts_alone e ∙ sym (last_more p.before (reading.A_part q));
        at = fit.at;
        group = fit.group;
        pass = fit.pass;
        number = fit.number;
        scope = fit.scope;
        declared = fit.declared;
        given = plain_given (names_in top.given) p.before (reading.A_part q) refl fit.given;
        locals = λ n. fit.locals n ∙ ap (λ l. is_among l n) (sym (plain_locals p.here p.before (reading.A_part q) refl));
        brought = fit.brought;
        outside = λ o. plain_locals p.here p.before (reading.A_part q) refl ∙ fit.outside o;
        parts = omega (arith, fit.parts, n);
        no_parts = λ o. absurd (different (sym e ∙ o));
        parts_alone = fit.parts_alone;
      }

  of_parts : AreFit (top ∷ frames) file parts locals → is_of_parts (inside_of top.inside) ≡ true → (names : List (List ℕ)) (files : List (Option File)) (version : Version) → is_of_parts (inner_of top frames file parts locals names files version).here.inside ≡ true
  of_parts fit e names files version =
      let h = fit.0 names files version in
      let p = inner_of top frames file parts locals names files version in
      sym (ap is_of_parts h.inside ∙ same_behind is_of_parts refl p.before p.here.inside) ∙ e

  pub fit_with_part : AreFit (top ∷ frames) file parts locals → is_of_parts (inside_of top.inside) ≡ true → AreFit (top ∷ frames) file (parts ++ q ∷ []) locals
  fit_with_part fit e =
      let one = fit.0 [] [] (record { dialect = One; is_known = false }) in
      let same = around_more top.opened top.parts (around_of top frames file parts locals [] [] (record { dialect = One; is_known = false })) frames parts q one.stands one.parts in (
        λ names files version.
            subst (λ (z : List Part). IsFit top frames file (parts ++ q ∷ []) locals
            (entered names files version (level_in top file (parts ++ q ∷ [])).what (level_in top file (parts ++ q ∷ [])) (place_in names files (version_around version (level_in top file (parts ++ q ∷ [])).what) (levels_in frames (file_around top.opened top.around file) z)))
            (place_in names files (version_around version (level_in top file (parts ++ q ∷ [])).what) (levels_in frames (file_around top.opened top.around file) z)))
            (sym same)
            (subst (λ (l : Level). IsFit top frames file (parts ++ q ∷ []) locals
            (entered names files version l.what l (place_in names files (version_around version l.what) (levels_in frames (file_around top.opened top.around file) (parts_around top.opened top.parts parts))))
            (place_in names files (version_around version l.what) (levels_in frames (file_around top.opened top.around file) (parts_around top.opened top.parts parts))))
            (sym (level_with one.parts))
            (subst (λ p. IsFit top frames file (parts ++ q ∷ []) locals p (around_of top frames file parts locals names files version))
            (sym (entered_with names files version (level_in top file parts).what (level_in top file parts) (reading.A_part q ∷ []) (around_of top frames file parts locals names files version)))
            (fit_part (inner_of top frames file parts locals names files version) (around_of top frames file parts locals names files version) (fit.0 names files version) (of_parts fit e names files version)))),
        subst (λ z. AreFit frames (file_around top.opened top.around file) z (take top.locals locals)) (sym same) fit.1,
      )

  pub levels_with_part : AreFit (top ∷ frames) file parts locals → levels_in (top ∷ frames) file (parts ++ q ∷ []) ≡ with_items (reading.A_part q ∷ []) (levels_in (top ∷ frames) file parts)
  levels_with_part fit =
      let one = fit.0 [] [] (record { dialect = One; is_known = false }) in
      let same = around_more top.opened top.parts (around_of top frames file parts locals [] [] (record { dialect = One; is_known = false })) frames parts q one.stands one.parts in
      ap (λ z. level_in top file (parts ++ q ∷ []) ∷ levels_in frames (file_around top.opened top.around file) z) same
      ∙ ap (λ l. l ∷ levels_in frames (file_around top.opened top.around file) (parts_around top.opened top.parts parts)) (level_with one.parts)

module _ (top : Frame) (frames : List Frame) (file : OpenFile) (locals : List Name) where
  pub fit_with_parts : (parts ps : List Part) → AreFit (top ∷ frames) file parts locals → is_of_parts (inside_of top.inside) ≡ true → AreFit (top ∷ frames) file (parts ++ ps) locals
  fit_with_parts parts [] fit e = subst (λ l. AreFit (top ∷ frames) file l locals) (sym (append-nil parts)) fit
  fit_with_parts parts (q ∷ ps) fit e =
      subst (λ l. AreFit (top ∷ frames) file l locals) (append_assoc parts (q ∷ []) ps)
      (fit_with_parts (parts ++ q ∷ []) ps (fit_with_part top frames file parts locals q fit e) e)

  pub levels_with_parts : (parts ps : List Part) → AreFit (top ∷ frames) file parts locals → is_of_parts (inside_of top.inside) ≡ true → levels_in (top ∷ frames) file (parts ++ ps) ≡ with_items (map reading.A_part ps) (levels_in (top ∷ frames) file parts)
  levels_with_parts parts [] fit e =
      ap (levels_in (top ∷ frames) file) (append-nil parts)
      ∙ ap (λ l. record (level_in top file parts) { before = l } ∷ levels_in frames (file_around top.opened top.around file) (parts_around top.opened top.parts parts)) (sym (append-nil (level_in top file parts).before))
  levels_with_parts parts (q ∷ ps) fit e =
      ap (levels_in (top ∷ frames) file) (sym (append_assoc parts (q ∷ []) ps))
      ∙ levels_with_parts (parts ++ q ∷ []) ps (fit_with_part top frames file parts locals q fit e) e
      ∙ ap (with_items (map reading.A_part ps)) (levels_with_part top frames file parts locals q fit)
      ∙ ap (λ l. record (level_in top file parts) { before = l } ∷ levels_in frames (file_around top.opened top.around file) (parts_around top.opened top.parts parts)) (append_assoc (level_in top file parts).before (reading.A_part q ∷ []) (map reading.A_part ps))

module _ (old new : Draft) (ps : List Part) (sound : IsSound old) (inside : is_of_parts (inside_of old.top.inside) ≡ true) (takes : new ≡ record old { parts = old.parts ++ ps }) where
  pub sound_with_parts : IsSound new
  sound_with_parts = subst IsSound (sym takes) after where
    after : IsSound (record old { parts = old.parts ++ ps })
    after = record {
      frames = fit_with_parts old.top (reverse old.below.items) old.file (known old.register).locals old.parts ps sound.frames inside;
      version = sound.version;
      declares = sound.declares;
      files = record { known = sound.files.known; kept = sound.files.kept };
    }

  pub takes_parts : TakesItems (map reading.A_part ps) old new
  takes_parts = record {
    levels = ap levels_of takes ∙ levels_with_parts old.top (reverse old.below.items) old.file (known old.register).locals old.parts ps sound.frames inside;
    loading = ap loading_of takes;
    version = ap (λ d. d.file.version) takes;
  }
