-- A declaration is at its end.
use Rattle.std.proofs.Common.{◌≡◌, ℕ, true, false, ◌||◌, List, [], ◌∷◌, ◌++◌, length, map, reverse, take, Option, refl, ap, sym, ◌∙◌}
use Rattle.std.proofs.Math.Path.{subst}
use Rattle.std.specs.Option.{option_map}
use Rattle.stxpath_syntax.specs.declared.dialect.Dialect.TheVariants.{One}
use Rattle.stx_base.specs.declared.fault.Place.{Place}
use Rattle.stx_base.specs.declared.part.Part.{Part}
use Rattle.sheet_model.specs.declared.sheet.Sheet.{Sheet}
use Rattle.xml_events.specs.Tree.{End, Future, Mark}
use Rattle.sheet_loader.proofs.Closing.{element_end_comes, element_frame, group_around, items_alone, items_at_end, its_inside, its_own, its_place, its_place_is, its_tag, no_parts_left, none_but_buffer, outer, parts_at_end, place_around, sound_outer}
use Rattle.sheet_loader.proofs.DeclaredEnds.{declared_at, ended_is}
use Rattle.sheet_loader.proofs.ElementEnds.{adds_to_sheet}
use Rattle.sheet_loader.proofs.KnownLemmas.{buffer-known, procedure-known, same-known, variable-known}
use Rattle.sheet_loader.proofs.Leaving.{declares_left, frames_left, version_known}
use Rattle.sheet_loader.proofs.Resuming.{answer_then, equal_answer}
use Rattle.sheet_loader.specs.Drafts.{frames_of, levels_of, loading_of}
use Rattle.sheet_loader.specs.Elements as element
use Rattle.sheet_loader.specs.Elements.{is_buffer, is_include, makes_group}
use Rattle.sheet_loader.specs.Events.{stage_of, stage_within}
use Rattle.sheet_loader.specs.Gathering.{values_in}
use Rattle.sheet_loader.specs.Judging.{is_declared_here}
use Rattle.sheet_loader.specs.Keys.{Owned, own_of, text_of}
use Rattle.sheet_loader.specs.Known.{Declares, Knows, declared_by, known, with_declared}
use Rattle.sheet_loader.specs.Levels.{Place_in, name_at, place_in}
use Rattle.sheet_loader.specs.Making.{Values as Read_values, bare, body, name, params, parts, variable}
use Rattle.sheet_loader.specs.Meant.{inside_of, item_of, kind_of, version_of}
use Rattle.sheet_loader.specs.Named.{names_of}
use Rattle.sheet_loader.specs.Reading as reading
use Rattle.sheet_loader.specs.Reading.{Context, File, Loading, place}
use Rattle.sheet_loader.specs.Remaining.{Reads_on, goes_on, remaining, version_by}
use Rattle.sheet_loader.specs.Resuming.{SameAnswer}
use Rattle.sheet_loader.specs.Sound.{AreBelow, AreFit, IsSound, IsSoundWithin, numbers_of}
use Rattle.sheet_loader.specs.Steps.{AddsToSheet, lacks_branches, template_of}
use Rattle.sheet_loader.specs.Steps as step
use Rattle.sheet_loader.specs.Values.{Reads}
use Rattle.sheet_loader.specs.Versions.{Version}
use Rattle.sheet_loader.specs.declared.declared.Own.{Own}
use Rattle.sheet_loader.specs.declared.draft.Draft.{Draft}
use Rattle.sheet_loader.specs.declared.frame.Frame.{Frame}
use Rattle.sheet_loader.specs.declared.kind.Kind.{Kind}
use Rattle.sheet_loader.specs.declared.register.Register.{Register}
use Rattle.sheet_loader.specs.declared.values.Values.{Values}

module _ (group : ℕ) (at : Place) (v : Read_values) (items : List reading.Item) (content : List Part) where
  -- the sheet behind a declaration of this kind
  abbrev sheet_behind : element.Kind → Sheet → Sheet
  sheet_behind element.Template s = record s { templates = s.templates ++ template_of group at v items ∷ [] }
  sheet_behind element.Procedure s = record s { procedures = s.procedures ++ record { group = group; name = name v; params = params items; body = body items; at = at } ∷ [] }
  sheet_behind element.Buffer s = record s { buffers = s.buffers ++ record { group = group; name = name v; content = content; at = at } ∷ [] }
  sheet_behind element.Variable s = record s { variables = s.variables ++ variable group false at v ∷ [] }
  sheet_behind element.Param s = record s { variables = s.variables ++ variable group true at v ∷ [] }
  sheet_behind other s = s

  -- its files are the same
  named_too : (kind : element.Kind) (s : Sheet) (own : List ℕ) → sheet_behind kind (record s { files = own ∷ s.files }) ≡ record (sheet_behind kind s) { files = own ∷ s.files }
  named_too element.Template s own = refl
  named_too element.Procedure s own = refl
  named_too element.Buffer s own = refl
  named_too element.Variable s own = refl
  named_too element.Param s own = refl
  named_too other s own = refl

  same_files : (kind : element.Kind) (s : Sheet) → (sheet_behind kind s).files ≡ s.files
  same_files element.Template s = refl
  same_files element.Procedure s = refl
  same_files element.Buffer s = refl
  same_files element.Variable s = refl
  same_files element.Param s = refl
  same_files other s = refl

  -- what is known of the sheet before it, with the name, is known of the sheet behind it
  known_behind : (kind : element.Kind) (d : Declares) (s : Sheet) (o : Owned) → ((makes_group kind || is_include kind) ≡ false → o ≡ record { group = group; name = bare (name v) }) → Knows d s → Knows (declared_by kind o d) (sheet_behind kind s)
  known_behind element.Template d s o e k = same-known d s (sheet_behind element.Template s) refl refl refl refl k
  known_behind element.Procedure d s o e k =
      subst (λ x. Knows (declared_by element.Procedure x d) (sheet_behind element.Procedure s)) (sym (e refl)) (procedure-known d s (record { group = group; name = name v; params = params items; body = body items; at = at }) k)
  known_behind element.Buffer d s o e k =
      subst (λ x. Knows (declared_by element.Buffer x d) (sheet_behind element.Buffer s)) (sym (e refl)) (buffer-known d s (record { group = group; name = name v; content = content; at = at }) k)
  known_behind element.Variable d s o e k =
      subst (λ x. Knows (declared_by element.Variable x d) (sheet_behind element.Variable s)) (sym (e refl)) (variable-known d s (variable group false at v) k)
  known_behind element.Param d s o e k =
      subst (λ x. Knows (declared_by element.Param x d) (sheet_behind element.Param s)) (sym (e refl)) (variable-known d s (variable group true at v) k)
  known_behind other d s o e k = k

  -- it is what the definition adds
  declared_is : (kind : element.Kind) (here : Context) (offset : ℕ) (found : List reading.Item) (l : Loading)
      → here.group ≡ group → place here offset ≡ at → (is_buffer kind ≡ false → found ≡ items) → parts found ≡ content
      → declared_at here offset kind v found l ≡ record l { sheet = sheet_behind kind l.sheet }
  declared_is element.Template here offset found l g p i c =
      ap (λ x. record l { sheet = record l.sheet { templates = l.sheet.templates ++ template_of x (place here offset) v found ∷ [] } }) g
      ∙ ap (λ x. record l { sheet = record l.sheet { templates = l.sheet.templates ++ template_of group x v found ∷ [] } }) p
      ∙ ap (λ x. record l { sheet = record l.sheet { templates = l.sheet.templates ++ template_of group at v x ∷ [] } }) (i refl)
  declared_is element.Procedure here offset found l g p i c =
      ap (λ x. record l { sheet = record l.sheet { procedures = l.sheet.procedures ++ record { group = x; name = name v; params = params found; body = body found; at = place here offset } ∷ [] } }) g
      ∙ ap (λ x. record l { sheet = record l.sheet { procedures = l.sheet.procedures ++ record { group = group; name = name v; params = params found; body = body found; at = x } ∷ [] } }) p
      ∙ ap (λ x. record l { sheet = record l.sheet { procedures = l.sheet.procedures ++ record { group = group; name = name v; params = params x; body = body x; at = at } ∷ [] } }) (i refl)
  declared_is element.Buffer here offset found l g p i c =
      ap (λ x. record l { sheet = record l.sheet { buffers = l.sheet.buffers ++ record { group = x; name = name v; content = parts found; at = place here offset } ∷ [] } }) g
      ∙ ap (λ x. record l { sheet = record l.sheet { buffers = l.sheet.buffers ++ record { group = group; name = name v; content = parts found; at = x } ∷ [] } }) p
      ∙ ap (λ x. record l { sheet = record l.sheet { buffers = l.sheet.buffers ++ record { group = group; name = name v; content = x; at = at } ∷ [] } }) c
  declared_is element.Variable here offset found l g p i c =
      ap (λ x. record l { sheet = record l.sheet { variables = l.sheet.variables ++ variable x false (place here offset) v ∷ [] } }) g
      ∙ ap (λ x. record l { sheet = record l.sheet { variables = l.sheet.variables ++ variable group false x v ∷ [] } }) p
  declared_is element.Param here offset found l g p i c =
      ap (λ x. record l { sheet = record l.sheet { variables = l.sheet.variables ++ variable x true (place here offset) v ∷ [] } }) g
      ∙ ap (λ x. record l { sheet = record l.sheet { variables = l.sheet.variables ++ variable group true x v ∷ [] } }) p
  declared_is other here offset found l g p i c = refl

-- the parts behind a declaration: a buffer takes them
abbrev parts_behind : element.Kind → List Part → List Part
parts_behind element.Buffer content = []
parts_behind other content = content

-- what a declaration adds, whatever it is
is_declared : (kind : element.Kind) (group : ℕ) (at : Place) (v : Read_values) (items : List reading.Item) (old new : Draft) → step.Declares kind group at v items old new
    → new ≡ record old { parts = parts_behind kind old.parts; sheet = sheet_behind group at v items old.parts kind old.sheet }
is_declared element.Template group at v items old new e = e
is_declared element.Procedure group at v items old new e = e
is_declared element.Buffer group at v items old new e = e
is_declared element.Variable group at v items old new e = e
is_declared element.Param group at v items old new e = e
is_declared other group at v items old new e = e

-- no parts are behind it
no_parts_behind : (kind : element.Kind) (content : List Part) → (is_buffer kind ≡ false → content ≡ []) → parts_behind kind content ≡ []
no_parts_behind element.Buffer content e = refl
no_parts_behind other content e = e refl

module _ (f0 : Frame) (d made new : Draft) (r : Register) (kind : Kind) (v : Values) (own : Own) (sound : IsSoundWithin (element_frame f0 d r kind v own) d)
    (leaves : known r ≡ record (known d.register) { locals = take f0.locals (known d.register).locals })
    (ends : AddsToSheet (kind_of kind) d.top.group (its_place f0 d r kind v own) (values_in v) (own_of own) (map item_of f0.items) (record d { register = r }) made)
    (is : new ≡ record made { file = record made.file { scope = take f0.around made.file.scope } }) where
  abbrev around : Draft
  around = outer f0 d r kind v own sound leaves

  abbrev sheet_then : Sheet
  sheet_then = sheet_behind d.top.group (its_place f0 d r kind v own) (values_in v) (map item_of f0.items) d.parts (kind_of kind) d.sheet

  abbrev after : Draft
  after = record around { register = made.register; sheet = sheet_then }

  is_after : new ≡ after
  is_after =
      let k = kind_of kind in
      let scoped : Draft → Draft = λ x. record x { file = record x.file { scope = take f0.around x.file.scope } } in
      is ∙ ap scoped ends.others
      ∙ ap (λ (x : Draft). scoped (record x { register = made.register })) (is_declared k d.top.group (its_place f0 d r kind v own) (values_in v) (map item_of f0.items) (record d { register = r }) ends.made ends.adds)
      ∙ ap (λ l. record after { parts = l }) (no_parts_behind k d.parts (none_but_buffer f0 d r kind v own sound leaves) ∙ sym (no_parts_left f0 d r kind v own sound leaves))

  made_register : ends.made.register ≡ r
  made_register = ap (λ x. x.register) (is_declared (kind_of kind) d.top.group (its_place f0 d r kind v own) (values_in v) (map item_of f0.items) (record d { register = r }) ends.made ends.adds)

  known_is : known made.register ≡ with_declared (kind_of kind) (own_of own) (known r)
  known_is = ends.names ∙ ap (λ x. with_declared (kind_of kind) (own_of own) (known x)) made_register

  sheet_named : (loading_of after).sheet ≡ sheet_behind d.top.group (its_place f0 d r kind v own) (values_in v) (map item_of f0.items) d.parts (kind_of kind) (loading_of d).sheet
  sheet_named =
      let k = kind_of kind in
      let at = its_place f0 d r kind v own in
      ap (λ l. record sheet_then { files = d.own ∷ l }) (same_files d.top.group at (values_in v) (map item_of f0.items) d.parts k d.sheet)
      ∙ sym (named_too d.top.group at (values_in v) (map item_of f0.items) d.parts k d.sheet d.own)

  pub sheet_end_sound : IsSound new
  sheet_end_sound = subst IsSound (sym is_after) sound_after where
    same : sheet_then.files ≡ d.sheet.files
    same = same_files d.top.group (its_place f0 d r kind v own) (values_in v) (map item_of f0.items) d.parts (kind_of kind) d.sheet

    sound_after : IsSound after
    sound_after = record {
      frames = subst (λ k. AreFit (frames_of d) around.file around.parts k.locals) (sym known_is) (frames_left (element_frame f0 d r kind v own) d r sound leaves);
      version = (sound_outer f0 d r kind v own sound leaves).version;
      declares =
          subst (λ s. Knows (known made.register).declares s) (sym sheet_named)
          (subst (λ k. Knows k.declares (sheet_behind d.top.group (its_place f0 d r kind v own) (values_in v) (map item_of f0.items) d.parts (kind_of kind) (loading_of d).sheet)) (sym known_is)
          (known_behind d.top.group (its_place f0 d r kind v own) (values_in v) (map item_of f0.items) d.parts (kind_of kind) (known r).declares (loading_of d).sheet (own_of own) (its_own f0 d r kind v own sound leaves [] [] (record { dialect = One; is_known = false }))
          (declares_left (element_frame f0 d r kind v own) d r sound leaves)));
      files = record {
        known = subst (λ l. AreBelow (length (d.own ∷ l)) (numbers_of (frames_of d) around.file)) (sym same) sound.files.known;
        kept = subst (λ l. map (name_at (d.own ∷ l)) (numbers_of (frames_of d) around.file) ≡ reverse (map text_of d.reading.keys) ++ d.own ∷ []) (sym same) sound.files.kept;
      };
    }

  pub sheet_end_files : names_of new ≡ names_of d
  sheet_end_files = ap names_of is_after ∙ ap (λ l. d.own ∷ l) (same_files d.top.group (its_place f0 d r kind v own) (values_in v) (map item_of f0.items) d.parts (kind_of kind) d.sheet)

  -- what was read then
  loading_then : (here : Context) → here.group ≡ d.top.group → place here f0.at ≡ its_place f0 d r kind v own
      → declared_at here f0.at (kind_of kind) (values_in v) (items_at_end f0 d r kind v own sound leaves) (loading_of d) ≡ loading_of after
  loading_then here g p =
      declared_is d.top.group (its_place f0 d r kind v own) (values_in v) (map item_of f0.items) d.parts (kind_of kind) here f0.at (items_at_end f0 d r kind v own sound leaves) (loading_of d) g p
      (items_alone f0 d r kind v own sound leaves) (parts_at_end f0 d r kind v own sound leaves)
      ∙ ap (λ s. record (loading_of d) { sheet = s }) (sym sheet_named)
      ∙ ap (λ k. record (loading_of after) { references = k.references }) (sym leaves)
      ∙ ap (λ k. record (loading_of after) { references = k.references }) (sym known_is)

  pub sheet_end_answer : (reads : Reads) (files : List (Option File)) (mark : Mark) (offset : ℕ) (f : Future)
      → is_declared_here (inside_of d.top.inside) ≡ true
      → lacks_branches (kind_of kind) (map item_of f0.items) ≡ false
      → SameAnswer reads files (remaining reads files (Reads_on (stage_within (element_frame f0 d r kind v own) d)) (End mark offset ∷ f)) (remaining reads files (Reads_on (stage_of new)) f)
  sheet_end_answer reads files mark offset f declared branched =
      let k = kind_of kind in
      let names = (loading_of d).sheet.files in
      let items = items_at_end f0 d r kind v own sound leaves in
      let v1 = version_by (option_map version_of d.file.version) (End mark offset ∷ f) in
      let v2 = version_by (option_map version_of d.file.version) f in
      let q : Version → Place_in = λ w. place_around f0 d r kind v own sound leaves names files w in
      let e = its_tag f0 d r kind v own sound leaves in
      answer_then reads files (element_end_comes f0 d r kind v own sound leaves reads files mark offset f)
      (equal_answer reads files
      (adds_to_sheet reads files (q v1) e k (values_in v) items (loading_of d) f
      (branched_too k d.parts (map item_of f0.items) items (items_alone f0 d r kind v own sound leaves) branched)
      (sym (its_inside f0 d r kind v own sound leaves names files v1) ∙ declared)
      ∙ ap (λ l. goes_on reads files (q v1) l f) (ended_is (q v1).here f0.at (values_in v) items (loading_of d) k ∙ loading_then (q v1).here (sym (group_around f0 d r kind v own sound leaves names files v1)) (its_place_is f0 d r kind v own sound leaves names files v1))
      ∙ ap (λ w. goes_on reads files (q w) (loading_of after) f) (version_known d.file.version (End mark offset ∷ f) f sound.version)
      ∙ ap (λ x. goes_on reads files (place_in x files v2 (levels_of around)) (loading_of after) f) (ap (λ x. d.own ∷ x) (sym (same_files d.top.group (its_place f0 d r kind v own) (values_in v) (map item_of f0.items) d.parts k d.sheet)))
      ∙ ap (λ x. remaining reads files (Reads_on (stage_of x)) f) (sym is_after)))
    where
      branched_too : (k : element.Kind) (ps : List Part) (xs ys : List reading.Item) → (is_buffer k ≡ false → ys ≡ xs) → lacks_branches k xs ≡ false → lacks_branches k ys ≡ false
      branched_too element.Choose ps xs ys e h = ap (lacks_branches element.Choose) (e refl) ∙ h
      branched_too other ps xs ys e h = refl
