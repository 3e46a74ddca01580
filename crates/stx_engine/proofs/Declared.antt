-- The prefixes of a run's parts are names, where those of its document are.
use Rattle.std.proofs.Common.{◌≡◌, ℕ, Bool, true, false, not, ◌&&◌, List, [], ◌∷◌, ◌++◌, Option, Some, None, map, refl, ap, ◌∙◌}
use Rattle.std.specs.Prelude.{filter}
use Rattle.std.specs.List.{list_all}
use Rattle.std.proofs.lemmas.Bool.{and_from, and_parts}
use Rattle.stx_base.specs.declared.name.Attr.{Attr}
use Rattle.stx_base.specs.declared.name.Binding.{Binding}
use Rattle.stx_base.specs.declared.name.Name.{Name}
use Rattle.stx_base.specs.declared.part.Part.{Part}
use Rattle.result_writer.specs.Allowed.{is_empty}
use Rattle.result_writer.specs.Laws.{WritesPrefixes}
use Rattle.result_writer.specs.Table.{has_prefix}
use Rattle.result_writer.specs.Target.{Left, fault, first_fault, next, nothing, or_else}
use Rattle.result_writer.specs.declared.fault.ResultFault.{ResultFault}
use Rattle.xml_events.specs.Tree.{Why, Leaf, Chars, CData, Comment, Pi, Forest, End, Cut, Single, Nested, Stage, Waiting, Ready, Entered}
use Rattle.run_parts.specs.Sound.{declares_names, is_named, is_sound_part}
use Rattle.run_parts.proofs.Sound.{filter_good, order_good}
use Rattle.template_machine.specs.Passed.{Passed, once_ready, put, then_put, unless_stopped}
use Rattle.template_machine.specs.Passing.{parts_if}
use Rattle.template_machine.specs.Putting.{attribute_part}
use Rattle.stx_engine.specs.inside.Accepted.{RunsNest}
use Rattle.stx_engine.specs.inside.Passed.{copied_attrs, end_parts, leaf_parts, passed, run_from, start_parts, unless_refused, with_first}
use Rattle.template_machine.specs.Trail.{scope_within}
use Rattle.sheet_model.specs.declared.pass.Kinds.{Kinds}
use Rattle.stx_engine.proofs.Parts.{parts-nest}

within_named : (scope decls : List Binding) → list_all is_named scope ≡ true → list_all is_named decls ≡ true → list_all is_named (scope_within scope decls) ≡ true
within_named scope decls h k =
    order_good is_named (filter (λ b. not (has_prefix decls b.prefix)) scope) (filter (λ b. not (is_empty b.uri)) decls) (filter_good is_named _ scope h) (filter_good is_named _ decls k)

-- Parts

abbrev all : List Part → Type 0
all ps = list_all is_sound_part ps ≡ true

all-append : (ps qs : List Part) → all ps → all qs → all (ps ++ qs)
all-append [] qs h k = k
all-append (p ∷ ps) qs h k = let both = and_parts (is_sound_part p) (list_all is_sound_part ps) h in and_from _ _ both.0 (all-append ps qs both.1 k)

all-attributes : (attrs : List Attr) → all (map attribute_part attrs)
all-attributes [] = refl
all-attributes (a ∷ attrs) = and_from true _ refl (all-attributes attrs)

all-if : (t : Bool) (ps : List Part) → all ps → all (parts_if t ps)
all-if true ps h = h
all-if false ps h = refl

all-start : (p : Kinds) (scope : List Binding) (name : Name) (attrs : List Attr) → list_all is_named scope ≡ true → all (start_parts p scope name attrs)
all-start p scope name attrs h = all-if p.elements _ (and_from _ _ h (all-attributes (copied_attrs p attrs)))

all-end : (p : Kinds) (name : Name) → all (end_parts p name)
all-end p name = all-if p.elements _ refl

all-leaf : (p : Kinds) (leaf : Leaf) → all (leaf_parts p leaf)
all-leaf p (Chars offset text) = all-if p.text _ refl
all-leaf p (CData offset text) = all-if p.text _ refl
all-leaf p (Comment offset text) = all-if p.comments _ refl
all-leaf p (Pi offset target text) = all-if p.instructions _ refl

all-then : (p q : Passed) → all p.parts → all q.parts → all (then_put p q).parts
all-then p q h k = by_stop p.stop where
  by_stop : (s : Option Why) → all (unless_stopped s p q).parts
  by_stop None = all-append p.parts q.parts h k
  by_stop (Some why) = h

all-once : (m : Stage) (kids : Forest) (p : Passed) → all p.parts → all (once_ready m kids p).parts
all-once Waiting (Cut why) p h = refl
all-once Waiting (End m offset) p h = h
all-once Waiting (Single m leaf next) p h = h
all-once Waiting (Nested m e kids next) p h = h
all-once (Ready first) kids p h = h
all-once (Entered first) kids p h = h

all-passed : (p : Kinds) (scope : List Binding) (f : Forest) → list_all is_named scope ≡ true → declares_names f ≡ true → all (passed p scope f).parts
all-passed p scope (End m offset) h k = refl
all-passed p scope (Cut why) h k = refl
all-passed p scope (Single m leaf next) h k = all-append (leaf_parts p leaf) (passed p scope next).parts (all-leaf p leaf) (all-passed p scope next h k)
all-passed p scope (Nested m e kids next) h k =
    let b = and_parts (list_all is_named e.decls) (declares_names kids && declares_names next) k in
    let c = and_parts (declares_names kids) (declares_names next) b.1 in
    let inside = scope_within scope e.decls in
    let w = within_named scope e.decls h b.0 in
    let start = start_parts p inside e.name e.attrs in
    let end = put (end_parts p e.name) (passed p scope next) in
    let list = then_put (passed p inside kids) end in
    all-once m kids (put start list)
    (all-append start list.parts (all-start p inside e.name e.attrs w)
    (all-then (passed p inside kids) end (all-passed p inside kids w c.0)
    (all-append (end_parts p e.name) (passed p scope next).parts (all-end p e.name) (all-passed p scope next h c.1))))

-- What a run puts was accepted.

module _ (limit : ℕ) where
  put-faultless : (l : Left) (ps : List Part) (stop : Option Why) → first_fault limit l (run_from limit l ps stop).parts ≡ None
  put-faultless l [] stop = refl
  put-faultless l (p ∷ ps) stop = by_fault (fault limit l p) refl (put-faultless (next l p) ps stop) where
    by_fault : (o : Option ResultFault) → fault limit l p ≡ o → first_fault limit (next l p) (run_from limit (next l p) ps stop).parts ≡ None
        → first_fault limit l (unless_refused o (with_first p (run_from limit (next l p) ps stop))).parts ≡ None
    by_fault None e h = ap (λ o. or_else o (first_fault limit (next l p) (run_from limit (next l p) ps stop).parts)) e ∙ h
    by_fault (Some f) e h = refl

  put-all : (l : Left) (ps : List Part) (stop : Option Why) → all ps → all (run_from limit l ps stop).parts
  put-all l [] stop h = refl
  put-all l (p ∷ ps) stop h =
      let both = and_parts (is_sound_part p) (list_all is_sound_part ps) h in
      by_fault (fault limit l p) (put-all (next l p) ps stop both.1) both.0 where
        by_fault : (o : Option ResultFault) → all (run_from limit (next l p) ps stop).parts → is_sound_part p ≡ true
            → all (unless_refused o (with_first p (run_from limit (next l p) ps stop))).parts
        by_fault None k one = and_from _ _ one k
        by_fault (Some f) k one = refl

pub runs-nest : WritesPrefixes → RunsNest
runs-nest prefixes limit p tree front declares begins =
    let q = passed p [] tree in
    let r = run_from limit nothing q.parts q.stop in
    parts-nest prefixes limit r.parts front (put-faultless limit nothing q.parts q.stop) (put-all limit nothing q.parts q.stop (all-passed p [] tree refl declares)) begins
