-- What a literal element of a body comes to: its list is open, or an attribute's fault is told.
use Rattle.std.proofs.Common.{◌≡◌, ℕ, ◌≤◌, true, false, List, [], ◌∷◌, ◌++◌, length, Option, Some, None, Err, is_some, refl, ap, sym, ◌∙◌}
use Rattle.std.specs.List.{flat_map}
use Rattle.std.specs.Option.{option_map_or}
use Rattle.stx_base.specs.Course.{Halt}
use Rattle.stx_base.specs.declared.fault.Place.{Place}
use Rattle.stx_base.specs.declared.fault.SheetCode.{SheetCode}
use Rattle.stx_base.specs.declared.name.Binding.{Binding}
use Rattle.stx_base.specs.declared.name.Name.{Name}
use Rattle.stx_base.specs.declared.node.First.{First}
use Rattle.sheet_model.specs.Names.{template_variables}
use Rattle.sheet_model.specs.declared.instr.LiteralAttr.{LiteralAttr}
use Rattle.xml_events.specs.Document.{inner}
use Rattle.xml_events.specs.Tree.{Element, Future}
use Rattle.sheet_loader.proofs.LiteralStarts.{literal_list, literal_start_goes, literal_start_sound}
use Rattle.sheet_loader.proofs.Resuming.{equal_answer}
use Rattle.sheet_loader.proofs.TagPlaces.{file_here, group_here, locals_here, scope_here, version_here}
use Rattle.sheet_loader.specs.Drafts.{before_tag, element_of, loading_of, version_in}
use Rattle.sheet_loader.specs.Elements.{allows_literals}
use Rattle.sheet_loader.specs.Events.{BehindOther, begins, place_at, stage_of, then_next}
use Rattle.sheet_loader.specs.Judging.{locals_at, scope_at}
use Rattle.sheet_loader.specs.Keys.{names_in}
use Rattle.sheet_loader.specs.Known.{HasLocals, known, refers_to}
use Rattle.sheet_loader.specs.Levels.{Place_in}
use Rattle.sheet_loader.specs.Meant.{inside_of}
use Rattle.sheet_loader.specs.Read.{literal, literal_attrs, templates}
use Rattle.sheet_loader.specs.Reading.{Does, File, Listed, Refused, refused}
use Rattle.sheet_loader.specs.References.{Reference}
use Rattle.sheet_loader.specs.Referring.{to_variables}
use Rattle.sheet_loader.specs.Remaining.{Reads_on, goes_on, remaining}
use Rattle.sheet_loader.specs.Resuming.{Of_literal, SameAnswer, attributes_read, in_literal}
use Rattle.sheet_loader.specs.Sound.{IsSound, is_of_parts}
use Rattle.sheet_loader.specs.Steps.{AreRead, templates_in}
use Rattle.sheet_loader.specs.Tags.{path_fault}
use Rattle.sheet_loader.specs.Values.{Reads}
use Rattle.sheet_loader.specs.Versions.{Version}
use Rattle.sheet_loader.specs.declared.draft.Draft.{Draft}
use Rattle.sheet_loader.specs.declared.element.StartTag.{StartTag}
use Rattle.sheet_loader.specs.declared.names.NameSet.{NameSet}
use Rattle.sheet_loader.specs.declared.refused.Refused as stopped
use Rattle.sheet_loader.specs.declared.refused.Refused.TheVariants as stop
use Rattle.sheet_loader.specs.declared.register.Register.{Register}

-- what the attributes of a literal element refer to is known of any locals in scope
abbrev pub Refers : (d : Draft) (at : Place) (attrs : List LiteralAttr) (r : Register) → Type 0
Refers d at attrs r =
    (locals : List Name) → HasLocals (known d.register) locals
    → known r ≡ refers_to (to_variables at locals d.top.group (flat_map (λ (a : LiteralAttr). template_variables a.value) attrs)) (known d.register)

-- the list of the element is the innermost one
pub literal_sound : (d : Draft) (tag : StartTag) (given : NameSet) (attrs : List LiteralAttr) (r : Register) (new : Draft)
    → IsSound (before_tag d tag.around) → is_some d.file.version ≡ true → tag.around ≤ length d.file.scope
    → allows_literals (inside_of d.top.inside) ≡ true → is_of_parts (inside_of d.top.inside) ≡ false → names_in given ≡ []
    → Refers d (record { file = d.file.number; offset = tag.offset }) attrs r
    → new ≡ record d { register = r; top = literal_list d tag given attrs r; below = new.below } → new.below.items ≡ d.below.items ++ d.top ∷ []
    → IsSound new
literal_sound d tag given attrs r new sound version declared allowed apart none refers is below =
    literal_start_sound d tag given attrs r sound declared allowed apart none (ap (λ k. k.locals) (refers (known d.register).locals (λ n. refl))) new version (ap (λ k. k.declares) (refers (known d.register).locals (λ n. refl))) is below

module _ (d : Draft) (tag : StartTag) (sound : IsSound (before_tag d tag.around)) (version : is_some d.file.version ≡ true) (reads : Reads) (files : List (Option File)) (first : First) (f : Future) where
  abbrev e : Element
  e = element_of tag d

  abbrev p : Place_in
  p = place_at files (begins e first f) (before_tag d tag.around)

  templates_here : templates reads files p.here e ≡ templates_in reads (version_in d.file).dialect d.file.scope tag.attrs
  templates_here =
      ap (λ (v : Version). templates_in reads v.dialect (scope_at p.here e) tag.attrs) (version_here d tag.around sound files (begins e first f) version)
      ∙ ap (λ (s : List Binding). templates_in reads (version_in d.file).dialect s tag.attrs) (scope_here d tag.around sound files (begins e first f))

  abbrev by_fault : Option SheetCode → Does Listed
  by_fault o = then_next reads files p (option_map_or (λ why. refused p.here e.offset why) o (literal reads files p.here p.before e (inner f) (loading_of d))) f

  -- an attribute has a fault
  pub literal_refused : (why : SheetCode) → path_fault (templates_in reads (version_in d.file).dialect d.file.scope tag.attrs) ≡ Some why
      → SameAnswer reads files (by_fault (path_fault (templates reads files p.here e))) (Halt (Refused (record { file = d.file.number; offset = tag.offset }) why))
  literal_refused why g =
      equal_answer reads files
      (ap by_fault (ap path_fault templates_here ∙ g)
      ∙ ap (λ (n : ℕ). Halt (Refused (record { file = n; offset = tag.offset }) why)) (file_here d tag.around sound files (begins e first f)))

  -- an attribute isn't read
  pub literal_stops : (new : Draft) (r : stopped.Refused) → AreRead reads (version_in d.file).dialect d.file.scope tag.attrs (Err r)
      → BehindOther reads files (by_fault (path_fault (templates reads files p.here e))) (record { file = d.file.number; offset = tag.offset }) new f (Err r)
  literal_stops new (stop.Code why) h = literal_refused why h
  literal_stops new stop.Memory h = tt

  module _ (given : NameSet) (attrs : List LiteralAttr) (r : Register) (declared : tag.around ≤ length d.file.scope) (allowed : allows_literals (inside_of d.top.inside) ≡ true) (apart : is_of_parts (inside_of d.top.inside) ≡ false) (none : names_in given ≡ []) (new : Draft) (refers : Refers d (record { file = d.file.number; offset = tag.offset }) attrs r) (is : new ≡ record d { register = r; top = literal_list d tag given attrs r; below = new.below }) (below : new.below.items ≡ d.below.items ++ d.top ∷ []) where
    refers_here : known r ≡ refers_to (to_variables (record { file = p.here.file; offset = tag.offset }) (locals_at p.here p.before) p.here.group (flat_map (λ (a : LiteralAttr). template_variables a.value) attrs)) (known d.register)
    refers_here =
        refers (locals_at p.here p.before) (locals_here d tag.around sound files (begins e first f))
        ∙ ap (λ (n : ℕ). refers_to (to_variables (record { file = n; offset = tag.offset }) (locals_at p.here p.before) d.top.group (flat_map (λ (a : LiteralAttr). template_variables a.value) attrs)) (known d.register)) (sym (file_here d tag.around sound files (begins e first f)))
        ∙ ap (λ (g : ℕ). refers_to (to_variables (record { file = p.here.file; offset = tag.offset }) (locals_at p.here p.before) g (flat_map (λ (a : LiteralAttr). template_variables a.value) attrs)) (known d.register)) (group_here d tag.around sound files (begins e first f))

    loading_read : loading_of new ≡ attributes_read p.here p.before e attrs (loading_of d)
    loading_read = ap loading_of is ∙ ap (λ (l : List Reference). record (loading_of d) { references = l }) (ap (λ k. k.references) refers_here)

    -- the attributes are read, and the element is open
    pub literal_opens : path_fault (templates_in reads (version_in d.file).dialect d.file.scope tag.attrs) ≡ None
        → ((others : List (Option File)) → attrs ≡ literal_attrs reads others tag.attrs (templates_in reads (version_in d.file).dialect d.file.scope tag.attrs))
        → SameAnswer reads files (by_fault (path_fault (templates reads files p.here e))) (remaining reads files (Reads_on (stage_of new)) f)
    literal_opens good made =
        equal_answer reads files
        (ap by_fault (ap path_fault templates_here ∙ good)
        ∙ ap (λ (l : List LiteralAttr). goes_on reads files (record { here = in_literal p.here p.before e; before = []; opens = Of_literal p.here p.before e l ∷ p.opens }) (attributes_read p.here p.before e l (loading_of d)) f)
        (ap (literal_attrs reads files tag.attrs) templates_here ∙ sym (made files))
        ∙ literal_start_goes d tag given attrs r sound declared allowed apart none (ap (λ k. k.locals) (refers (known d.register).locals (λ n. refl))) new version (ap (λ k. k.declares) (refers (known d.register).locals (λ n. refl))) is below reads files first f loading_read)
