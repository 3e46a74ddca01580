-- The group of what stands in an element: it comes to be with the element, or is that around it.
use Rattle.std.proofs.Common.{◌≡◌, ℕ, ◌-◌, Bool, true, false, List, [], ◌∷◌, ◌++◌, length, Some, refl, ap, sym, ◌∙◌, codes, if◌then◌else◌}
use Rattle.std.proofs.Math.Path.{subst}
use Rattle.std.specs.Option.{option_map}
use Rattle.stx_base.specs.declared.fault.Place.{Place}
use Rattle.sheet_model.specs.declared.pass.Pass.{Pass}
use Rattle.sheet_model.specs.declared.sheet.Group.{Group}
use Rattle.sheet_loader.proofs.KnownLemmas.{group-known}
use Rattle.sheet_loader.proofs.Opening.{begins_group, begins_nothing, begins_sheet}
use Rattle.sheet_loader.specs.Drafts.{loading_of}
use Rattle.sheet_loader.specs.Elements.{Kind, is_own, makes_group}
use Rattle.sheet_loader.specs.Known.{Known, Knows, known, with_group, without_groups}
use Rattle.sheet_loader.specs.Making.{Values, as_name, bare, is_yes, pass_or, value_at}
use Rattle.sheet_loader.specs.Meant.{inside_of}
use Rattle.sheet_loader.specs.Read.{begun}
use Rattle.sheet_loader.specs.Reading.{Context, Loading, place}
use Rattle.sheet_loader.specs.References.{Reference}
use Rattle.sheet_loader.specs.Steps.{Enters, OpensBy, inner_of, root_of}
use Rattle.sheet_loader.specs.declared.draft.Draft.{Draft}
use Rattle.sheet_loader.specs.declared.register.Register.{Register}

-- where a tag stands, as far as it counts for a group that comes to be
pub record StandsAt (d : Draft) (at : Place) (offset : ℕ) (k : Kind) (here : Context) : Type 0 where
  pub group : d.top.group ≡ here.group
  pub pass : d.top.pass ≡ here.pass
  pub own : is_own (inside_of d.top.inside) ≡ is_own here.inside
  pub at_is : at ≡ place here offset
  pub root : is_own here.inside ≡ true → makes_group k ≡ true

abbrev pub with_references : Draft → List Reference → Loading
with_references d references = record (loading_of d) { references = references }

module _ (d : Draft) (r : Register) (k : Kind) (v : Values) (at : Place) where
  -- the draft has taken what the tag refers to
  abbrev pub referred : Draft
  referred = record d { register = r }

  -- what is so of a draft in which an element's group is there
  pub record Entered (kept : Values) (group : ℕ) (pass : Pass) (mid : Draft) : Type 0 where
    pub others : mid ≡ record d { register = mid.register; sheet = mid.sheet }
    pub locals : (known mid.register).locals ≡ (known r).locals
    pub references : (known mid.register).references ≡ (known r).references
    pub files : mid.sheet.files ≡ d.sheet.files
    pub kept_pass : makes_group k ≡ true → value_at (codes "pass-through") kept ≡ value_at (codes "pass-through") v
    pub kept_all : makes_group k ≡ false → kept ≡ v
    pub group_is : makes_group k ≡ false → group ≡ d.top.group
    pub last : makes_group k ≡ true → group ≡ length mid.sheet.groups - 1
    pub pass_is : pass ≡ (if makes_group k then pass_or d.top.pass (value_at (codes "pass-through") v) else d.top.pass)
    pub knows : Knows (known r).declares (loading_of d).sheet → Knows (known mid.register).declares (loading_of mid).sheet
    pub begins : (here : Context) (offset : ℕ) (refs : List Reference) → StandsAt d at offset k here
        → begun here offset k v (with_references d refs) ≡ with_references mid refs

  abbrev own_pass : Pass
  own_pass = pass_or d.top.pass (value_at (codes "pass-through") v)

  false_true : {A : Type 0} → false ≡ true → A
  false_true e = cc

  -- none comes to be
  nothing_entered : makes_group k ≡ false → Entered v d.top.group d.top.pass referred
  nothing_entered none = record {
    others = refl;
    locals = refl;
    references = refl;
    files = refl;
    kept_pass = λ e. refl;
    kept_all = λ e. refl;
    group_is = λ e. refl;
    last = λ e. false_true (sym none ∙ e);
    pass_is = ap (λ b. if b then own_pass else d.top.pass) (sym none);
    knows = λ h. h;
    begins = λ here offset references s.
        begins_nothing here offset k v (with_references d references) (not_own (is_own here.inside) s.root) none;
  } where
    not_own : (b : Bool) → (b ≡ true → makes_group k ≡ true) → b ≡ false
    not_own true h = false_true (sym none ∙ h refl)
    not_own false h = refl

  module _ (kept : Values) (makes : makes_group k ≡ true) (same_pass : value_at (codes "pass-through") kept ≡ value_at (codes "pass-through") v) where
    abbrev rooted : Register → Draft
    rooted q = record d {
      register = q;
      sheet = record d.sheet {
        groups = root_of at v ∷ [];
        strip = is_yes (value_at (codes "strip-space") v);
        cdata = is_yes (value_at (codes "recognize-cdata") v);
      };
    }

    -- the root group comes to be
    root_entered : is_own (inside_of d.top.inside) ≡ true → (q : Register) → known q ≡ without_groups (known r) → Entered kept (length (rooted q).sheet.groups - 1) own_pass (rooted q)
    root_entered own q is = record {
      others = refl;
      locals = ap (λ k. k.locals) is;
      references = ap (λ k. k.references) is;
      files = refl;
      kept_pass = λ e. same_pass;
      kept_all = λ e. false_true (sym e ∙ makes);
      group_is = λ e. false_true (sym e ∙ makes);
      last = λ e. refl;
      pass_is = ap (λ b. if b then own_pass else d.top.pass) (sym makes);
      knows = λ h. subst (λ (x : Known). Knows x.declares (loading_of (rooted q)).sheet) (sym is) (record {
        groups = λ n. refl;
        procedures = h.procedures;
        buffers = h.buffers;
        variables = h.variables;
      });
      begins = λ here offset references s.
          begins_sheet here offset k v (with_references d references) (sym s.own ∙ own)
          ∙ ap (λ (x : Place). with_references (record (rooted q) { sheet = record (rooted q).sheet { groups = root_of x v ∷ [] } }) references) (sym s.at_is);
    }

    abbrev nested : Register → Draft
    nested q = record d { register = q; sheet = record d.sheet { groups = d.sheet.groups ++ inner_of referred at v ∷ [] } }

    abbrev in_groups : Group → List Reference → Loading
    in_groups g references = record (with_references d references) { sheet = record (loading_of d).sheet { groups = d.sheet.groups ++ g ∷ [] } }

    -- a group within the innermost one comes to be
    inner_entered : is_own (inside_of d.top.inside) ≡ false → (q : Register) → known q ≡ with_group (option_map bare (as_name (value_at (codes "name") v))) (known r)
        → Entered kept (length (nested q).sheet.groups - 1) own_pass (nested q)
    inner_entered own q is = record {
      others = refl;
      locals = ap (λ k. k.locals) is;
      references = ap (λ k. k.references) is;
      files = refl;
      kept_pass = λ e. same_pass;
      kept_all = λ e. false_true (sym e ∙ makes);
      group_is = λ e. false_true (sym e ∙ makes);
      last = λ e. refl;
      pass_is = ap (λ b. if b then own_pass else d.top.pass) (sym makes);
      knows = λ h. subst (λ (x : Known). Knows x.declares (loading_of (nested q)).sheet) (sym is) (group-known (known r).declares (loading_of d).sheet (inner_of referred at v) h);
      begins = λ here offset references s.
          begins_group here offset k v (with_references d references) (sym s.own ∙ own) makes
          ∙ ap (λ (x : ℕ). in_groups (record { parent = Some x; name = as_name (value_at (codes "name") v); pass = pass_or here.pass (value_at (codes "pass-through") v); at = place here offset }) references) (sym s.group)
          ∙ ap (λ (x : Pass). in_groups (record { parent = Some d.top.group; name = as_name (value_at (codes "name") v); pass = pass_or x (value_at (codes "pass-through") v); at = place here offset }) references) (sym s.pass)
          ∙ ap (λ (x : Place). in_groups (record { parent = Some d.top.group; name = as_name (value_at (codes "name") v); pass = own_pass; at = x }) references) (sym s.at_is);
    }

    group_entered : (own : Bool) → is_own (inside_of d.top.inside) ≡ own → (mid : Draft) → OpensBy own v at referred mid → Entered kept (length mid.sheet.groups - 1) own_pass mid
    group_entered true e mid o = subst (λ (m : Draft). Entered kept (length m.sheet.groups - 1) own_pass m) (sym o.others) (root_entered e mid.register o.known)
    group_entered false e mid o = subst (λ (m : Draft). Entered kept (length m.sheet.groups - 1) own_pass m) (sym o.others) (inner_entered e mid.register o.known)

  entered_by : (b : Bool) → makes_group k ≡ b → (kept : Values) (made : ℕ × Pass) (mid : Draft) → Enters b v kept at made referred mid → Entered kept made.0 made.1 mid
  entered_by false none kept made mid e =
      subst (Entered kept made.0 made.1) (sym e.0)
      (subst (λ (w : Values). Entered w made.0 made.1 referred) (sym e.1)
      (subst (λ (m : ℕ × Pass). Entered v m.0 m.1 referred) (sym e.2) (nothing_entered none)))
  entered_by true makes kept made mid e =
      subst (λ (m : ℕ × Pass). Entered kept m.0 m.1 mid) (sym e.2) (group_entered kept makes e.1 (is_own (inside_of d.top.inside)) refl mid e.0)

  pub entered : (kept : Values) (made : ℕ × Pass) (mid : Draft) → Enters (makes_group k) v kept at made referred mid → Entered kept made.0 made.1 mid
  entered = entered_by (makes_group k) refl
