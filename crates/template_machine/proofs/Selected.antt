-- The template that a machine chooses for its current node.
use Rattle.std.proofs.Common.{◌≡◌, ℕ, suc, ◌-◌, List, [], ◌∷◌, ◌++◌, length, map, filter, reverse, Option, Some, None, refl, ap, sym, ◌∙◌}
use Rattle.std.proofs.lemmas.List.{length-map, length-reverse}
use Rattle.stx_base.proofs.Course.{funext}
use Rattle.stx_base.specs.declared.limits.Limits.{Limits}
use Rattle.stx_base.specs.declared.name.Name.{Name}
use Rattle.stx_base.specs.declared.node.NodeTest.TheVariants as test
use Rattle.group_scope.specs.Choice.{all_from, alternatives_from, category, chosen, chosen_of, fitting, is_free, rank_of, seen_by, settings}
use Rattle.group_scope.specs.Rank.{best_of}
use Rattle.std.specs.Prelude.{option_map}
use Rattle.group_scope.specs.declared.rank.Category.{Category}
use Rattle.group_scope.specs.declared.rank.Chosen.{Chosen}
use Rattle.group_scope.specs.declared.rank.Rank.{Rank}
use Rattle.instr_code.specs.Bare.{template_without_body, without_bodies}
use Rattle.node_stack.specs.Path.{PathNode}
use Rattle.node_stack.specs.Stack.{path}
use Rattle.result_writer.specs.Target.{Left}
use Rattle.sheet_model.specs.Groups.{around}
use Rattle.sheet_model.specs.declared.sheet.Group.{Group}
use Rattle.sheet_model.specs.declared.sheet.Sheet.{Sheet}
use Rattle.sheet_model.specs.declared.sheet.Template.{Template}
use Rattle.stxpath_eval.specs.Setting.{Setting}
use Rattle.stxpath_syntax.specs.declared.expr.Alternative.{Alternative}
use Rattle.stxpath_values.specs.declared.value.Atom.{Atom}
use Rattle.template_machine.specs.Alike.{along_path}
use Rattle.var_store.specs.Copies.{Stored}
use Rattle.template_machine.specs.Choosing.{ChoosesAs}
use Rattle.template_machine.specs.Job.{Given}
use Rattle.template_machine.specs.Passing.{choice}
use Rattle.template_machine.specs.Programs.{IsProgramOf}
use Rattle.template_machine.specs.Still as still
use Rattle.template_machine.specs.Still.{nodes_of, trail_of}
use Rattle.template_machine.specs.Trail.{path_of, stand}
use Rattle.template_machine.specs.Values.{pattern_setting}
use Rattle.template_machine.specs.Variables.{seen_in}
use Rattle.template_machine.specs.declared.program.Program.{Program}
use Rattle.template_machine.specs.declared.run.Run.{Run}
use Rattle.template_machine.proofs.Patterned.{choices_see_nodes, trails_pass_alike}

-- A choice doesn't ask for bodies.

alternatives_bare : (number : ℕ) (t : Template) (c : Category) (place : ℕ) (as_ : List Alternative)
    → alternatives_from number (template_without_body t) c place as_ ≡ alternatives_from number t c place as_
alternatives_bare number t c place [] = refl
alternatives_bare number t c place (a ∷ as_) = ap (λ l. record { pattern = a; group = t.group; rank = rank_of t a c number place } ∷ l) (alternatives_bare number t c (suc place) as_)

seen_bare : (number : ℕ) (t : Template) (o : Option Category) → seen_by number (template_without_body t) o ≡ seen_by number t o
seen_bare number t None = refl
seen_bare number t (Some c) = alternatives_bare number t c 0 t.pattern.alternatives

all_bare : (s : Sheet) (base number : ℕ) (ts : List Template) → all_from (category (without_bodies s) base) number (map template_without_body ts) ≡ all_from (category s base) number ts
all_bare s base number [] = refl
all_bare s base number (t ∷ ts) =
    ap (λ l. l ++ all_from (category (without_bodies s) base) (suc number) (map template_without_body ts)) (seen_bare number t (category s base t))
    ∙ ap (λ l. seen_by number t (category s base t) ++ l) (all_bare s base (suc number) ts)

pub chosen_bare : (s : Sheet) (base : ℕ) (active : List ℕ) (g : (group : ℕ) → Setting) → chosen (without_bodies s) base active g ≡ chosen s base active g
chosen_bare s base active g = ap (λ cs. best_of (fitting g (filter (is_free active) cs))) (all_bare s base 0 s.templates)

-- what the patterns of a run see of variables
abbrev pub seen_of : Program → Run → (group : ℕ) → Name → Option (List Atom)
seen_of p r group name = seen_in (around p.sheet.groups group) r.store name

module _ (given : Given) (p : Program) (program : IsProgramOf given.sheet given.limits p) (r : Run) (left : Left) where
  abbrev made : List Group → Limits → (place : ℕ) → (group : ℕ) → Setting
  made groups limits place group = record {
    vars = λ name. seen_in (around groups group) r.store name;
    limits = limits;
    path = path_of (trail_of (nodes_of r.source));
    place = place;
    test = test.AnyNode;
  }

  long : length (trail_of (nodes_of r.source)) ≡ length (path r.source.stack).nodes
  long = length-map (reverse (path r.source.stack).nodes) (λ (x : PathNode). stand x.node x.earlier) ∙ length-reverse (path r.source.stack).nodes

  settings_are : (group : ℕ) → along_path (path_of (trail_of (nodes_of r.source))) (settings (seen_of p r) p.limits (path r.source.stack) group)
      ≡ pattern_setting given (trail_of (nodes_of r.source)) (still.state_of given p r left) group
  settings_are group =
      ap (λ (s : Sheet). made s.groups p.limits (length (path r.source.stack).nodes - 1) group) program.sheet_is
      ∙ ap (λ l. made given.sheet.groups l (length (path r.source.stack).nodes - 1) group) program.limits_are
      ∙ ap (λ n. made given.sheet.groups given.limits (n - 1) group) (sym long)

  pub chosen_as : (base : ℕ) (active : List ℕ)
      → chosen p.sheet base active (settings (seen_of p r) p.limits (path r.source.stack)) ≡ choice given base active (trail_of (nodes_of r.source)) (still.state_of given p r left)
  chosen_as base active =
      choices_see_nodes p.sheet base active (settings (seen_of p r) p.limits (path r.source.stack)) (path_of (trail_of (nodes_of r.source)))
      (λ group. trails_pass_alike (settings (seen_of p r) p.limits (path r.source.stack) group))
      ∙ ap (λ g. chosen p.sheet base active g) (funext settings_are)
      ∙ ap (λ (s : Sheet). chosen s base active (pattern_setting given (trail_of (nodes_of r.source)) (still.state_of given p r left))) program.sheet_is
      ∙ chosen_bare given.sheet base active (pattern_setting given (trail_of (nodes_of r.source)) (still.state_of given p r left))

-- So a machine chooses.
pub chooses_by : (p : Program) (r : Run) (base : ℕ) (active : List ℕ) (choice_now : Option Chosen) (store : Stored) (groups : List Group) → store ≡ r.store → groups ≡ p.sheet.groups
    → choice_now ≡ option_map chosen_of (chosen p.sheet base active (settings (λ group name. seen_in (around groups group) store name) p.limits (path r.source.stack)))
    → ChoosesAs p r base active choice_now
chooses_by p r base active choice_now store groups stored grouped is given program left =
    is
    ∙ ap (λ st. option_map chosen_of (chosen p.sheet base active (settings (λ group name. seen_in (around groups group) st name) p.limits (path r.source.stack)))) stored
    ∙ ap (λ gs. option_map chosen_of (chosen p.sheet base active (settings (λ group name. seen_in (around gs group) r.store name) p.limits (path r.source.stack)))) grouped
    ∙ ap (option_map chosen_of) (chosen_as given p program r left base active)
