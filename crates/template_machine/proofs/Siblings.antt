-- A body asks for siblings: its node waits, and the list of the node goes on.
use Rattle.std.proofs.Common.{◌≡◌, ℕ, suc, ◌≤◌, Bool, true, false, List, [], ◌∷◌, Option, Some, refl, ap, sym, subst, ◌∙◌, arith, IsSome}
use Rattle.std.specs.Prelude.{◌&&◌, not, MatchBool}
use Rattle.std.proofs.lemmas.Bool.{false≢true}
use Rattle.frame_stack.specs.declared.frame.Frame.{Frame}
use Rattle.frame_stack.specs.declared.frame.Frame.TheVariants.{Body, Call, Loop, Region}
use Rattle.node_stack.specs.Path as node
use Rattle.node_stack.specs.Path.{Node, can_end, can_have_children, is_attribute}
use Rattle.template_machine.specs.Bodies.{level_in, pc_in, spent_in}
use Rattle.template_machine.specs.Contexts.{Station}
use Rattle.template_machine.specs.Lists.{rest_of}
use Rattle.template_machine.specs.Standing.{Front, Known, Standing, region_over, waits_from_here}
use Rattle.template_machine.specs.Ways.{IsWay, Way, first_in, here, left, open_on}
use Rattle.template_machine.specs.Well.{AreWell, BodyWaits, CanReturn, HasList, IsFrontFor, IsOpen, IsSettled, ListGoesOn, OnFirst, is_again}
use Rattle.template_machine.specs.declared.program.Program.{Program}
use Rattle.template_machine.proofs.Children.{asks_before}
use Rattle.template_machine.proofs.Leaving.{around}
use Rattle.template_machine.proofs.Regions.{has_level}
use Rattle.template_machine.proofs.Ways.{one_element, open_more}

front_by : (b x c : Bool) (A B : Type 0) (w : Way) (n : ℕ) (front : Front) → (b ≡ true → A → IsFrontFor (left w) n front) → x ≡ false → c ≡ false
    → MatchBool b A (MatchBool x B (MatchBool c (IsOpen w n front) (IsFrontFor (left w) n front))) → IsFrontFor (left w) n front
front_by true x c A B w n front again leaf gone h = again refl h
front_by false true c A B w n front again leaf gone h = absurd (false≢true (sym leaf))
front_by false false false A B w n front again leaf gone h = h
front_by false false true A B w n front again leaf gone h = absurd (false≢true (sym gone))

gone_by : (b spent : Bool) → (b ≡ true → Some spent ≡ Some true) → (b && not spent) ≡ false
gone_by true true gone = refl
gone_by true false gone = let same : Some false ≡ Some true = gone refl in absurd (cc)
gone_by false spent gone = refl

-- a node that can end is no attribute
ends_no_document : (n : Node) → can_end (Some n) ≡ true → (o : Option Node) → o ≡ Some n → o ≡ Some node.Document → ⊥
ends_no_document n e o is none =
    let same : Some n ≡ Some node.Document = sym is ∙ none in false≢true (sym (ap can_end same) ∙ e)

ends_no_attribute : (n : Node) → can_end (Some n) ≡ true → is_attribute (Some n) ≡ false
ends_no_attribute (node.Attribute a) e = absurd (false≢true e)
ends_no_attribute n e = refl

-- the way without its current node, and with it again
put_back : (nodes : List Node) (n : Node) → first_in nodes ≡ Some n → n ∷ rest_of nodes ≡ nodes
put_back [] n e = absurd (cc)
put_back (x ∷ xs) n e = let same : x ≡ n = cc in ap (λ y. y ∷ xs) (sym same)

module _ (p : Program) (stations : List Station) where
  -- The node waits, and so does its body.
  pub region_well : (fs : List Frame) (s : Standing) (asked level : ℕ) (n : Node) (others : List (Option Node)) → AreWell p stations 0 true fs (record s { aside = others })
      → pc_in fs ≡ Some (suc asked) → level_in fs ≡ Some level → here s.source.way ≡ Some n → can_end (Some n) ≡ true → IsWay s.source.way.nodes
      → open_on s.source.way ≤ s.source.way.limit → (can_have_children (Some n) ≡ true → spent_in fs ≡ Some true)
      → AreWell p stations 0 true (Region asked level ∷ fs) (waits_from_here s.source.way.nodes others s) × HasList (left s.source.way)
  region_well fs s asked level n others w at own is end way room gone =
      let back : n ∷ rest_of s.source.way.nodes ≡ s.source.way.nodes = put_back s.source.way.nodes n is in
      let list : HasList (left s.source.way) = around s.source.way.nodes s.source.way.limit way (ends_no_document n end (here s.source.way) is) in
      let same : region_over n others (waits_from_here s.source.way.nodes others s) ≡ record s { aside = others } =
      ap (λ l. record s { aside = others; source = record s.source { way = record s.source.way { nodes = l } } }) back in
      let more = open_more n (left s.source.way) in
      let whole = ap (λ l. open_on (record s.source.way { nodes = l })) back in
      let can : CanReturn n (left s.source.way) = record {
        children = list;
        room = λ e. omega (arith, more, whole, room, one_element n e);
        end = end;
      } in
      let here_is : OnFirst (Some n ∷ others) (λ x others. CanReturn x (left s.source.way) × (can_have_children (Some x) ≡ true → spent_in fs ≡ Some true)
      × AreWell p stations 0 true fs (region_over x others (waits_from_here s.source.way.nodes others s))) =
      (can, gone, subst (AreWell p stations 0 true fs) (sym same) w) in (
        (
          refl,
          own,
          asks_before fs asked at,
          subst (λ o. OnFirst (o ∷ others) (λ x others. CanReturn x (left s.source.way) × (can_have_children (Some x) ≡ true → spent_in fs ≡ Some true)
              × AreWell p stations 0 true fs (region_over x others (waits_from_here s.source.way.nodes others s)))) (sym is) here_is,
        ),
        list,
      )

  -- What is known is known of the list of the body's node, whose children are gone.
  front_around : (loops : ℕ) (waits : Bool) (fs : List Frame) (s : Standing) (w : Way) (n : ℕ) (front : Front) → AreWell p stations loops waits fs s → IsSome (level_in fs)
      → is_attribute (here w) ≡ false → (can_have_children (here w) ≡ true → spent_in fs ≡ Some true) → IsSettled fs w n front → IsFrontFor (left w) n front
  front_around loops waits [] s w n front well some leaf gone h = absurd h
  front_around loops waits (Loop turn ∷ fs) s w n front well some leaf gone h = front_around (suc loops) waits fs s w n front well some leaf gone h
  front_around loops waits (Call procedure pc locals level ∷ fs) s w n front well some leaf gone h =
      front_around 0 false fs _ w n front well.1.1.3 (subst (λ o. IsSome o) (sym well.1.1.2) refl) leaf gone h
  front_around loops waits (Body template alternative pc locals level spent ∷ fs) s w n front well some leaf gone h =
      front_by (is_again level fs) (is_attribute (here w)) (can_have_children (here w) && not spent) (IsSettled fs w n front) (IsSettled fs (left w) n front) w n front
      (λ e a. front_around 0 true fs _ w n front well.1.1.4 (has_level level fs e) leaf (λ has. well.1.1.3 e ∙ gone has) a) leaf
      (gone_by (can_have_children (here w)) spent gone) h
  front_around loops waits (f ∷ fs) s w n front well some leaf gone h = absurd (false≢true some)

  -- A node without children waits at once.
  pub siblings_open : (fs : List Frame) (s : Standing) (asked level : ℕ) (n : Node) (known : Known) → BodyWaits p stations fs s known
      → pc_in fs ≡ Some (suc asked) → level_in fs ≡ Some level → here s.source.way ≡ Some n → can_end (Some n) ≡ true → IsWay s.source.way.nodes
      → open_on s.source.way ≤ s.source.way.limit → (can_have_children (Some n) ≡ true → spent_in fs ≡ Some true)
      → ListGoesOn p stations (Region asked level ∷ fs) (waits_from_here s.source.way.nodes s.aside s) known
  siblings_open fs s asked level n known b at own is end way room gone =
      let r = region_well fs s asked level n s.aside b.well at own is end way room gone in
      record {
        well = r.0;
        fits = (
          r.1,
          (λ some. absurd (false≢true some)),
          front_around 0 true fs s s.source.way known.begun known.front b.well b.body (ap is_attribute is ∙ ends_no_attribute n end)
              (λ has. gone (sym (ap can_have_children is) ∙ has)) b.fits,
        );
      }
