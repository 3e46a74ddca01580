-- Nodes of buffers, and of documents that are new, weigh nothing.
use Rattle.std.proofs.Common.{◌≡◌, ℕ, Bool, true, false, ◌||◌, List, [], ◌∷◌, Option, refl, arith, if◌then◌else◌}
use Rattle.stx_base.specs.declared.fault.Place.{Place}
use Rattle.xml_events.specs.Tree.{Forest, End, Cut, Single, Nested, Chars, CData, Comment, Pi}
use Rattle.event_buffers.specs.Forest.{forest, inner, kept_before, lists, outer, text_before}
use Rattle.event_buffers.specs.declared.kept.Kept.{Kept}
use Rattle.event_buffers.specs.declared.kept.Kept.TheVariants as kept
use Rattle.template_machine.specs.Fuel.{is_begun, is_entered}
use Rattle.template_machine.specs.Job.{Opened}
use Rattle.template_machine.specs.Outcome.{has_begun, size}

both_false : (a b : Bool) → (a || b) ≡ false → (a ≡ false) × (b ≡ false)
both_false true b e = absurd (cc)
both_false false b e = (refl, e)

either_false : (a b : Bool) → a ≡ false → b ≡ false → (a || b) ≡ false
either_false true b d e = absurd (cc)
either_false false b d e = e

own_none : (b : Bool) → b ≡ false → ◌≡◌ {A = ℕ} (if b then 1 else 0) 0
own_none true e = absurd (cc)
own_none false e = refl

module _ (fuel : ℕ) (document : Option (List ℕ)) (at : Place) (number : ℕ) where
  pub new_size : (list : Forest) → has_begun list ≡ false → size fuel (Opened document at number) list ≡ 0
  new_size (End m offset) e = refl
  new_size (Cut why) e = refl
  new_size (Single m leaf next) e =
      let h = both_false (is_begun m) (has_begun next) e in
      let o = own_none (is_begun m) h.0 in
      let n = new_size next h.1 in omega arith
  new_size (Nested stage x kids next) e =
      let h = both_false (is_entered stage || has_begun kids) (has_begun next) e in
      let k = both_false (is_entered stage) (has_begun kids) h.0 in
      let o = own_none (is_entered stage) k.0 in
      let n = new_size next h.1 in
      let m = new_size kids k.1 in omega arith

abbrev AllNew : List Forest → Type 0
AllNew [] = Unit {0}
AllNew (x ∷ xs) = (has_begun x ≡ false) × AllNew xs

inner_new : (f : List Forest) → AllNew f → has_begun (inner f) ≡ false
inner_new [] h = refl
inner_new (x ∷ xs) h = h.0

outer_new : (f : List Forest) → AllNew f → AllNew (outer f)
outer_new [] h = tt
outer_new (x ∷ xs) h = h.1

text_new : (text : List ℕ) (list : Forest) → has_begun list ≡ false → has_begun (text_before text list) ≡ false
text_new [] list e = e
text_new (c ∷ cs) (End m offset) e = e
text_new (c ∷ cs) (Cut why) e = e
text_new (c ∷ cs) (Single m (Chars offset more) next) e = (both_false (is_begun m) (has_begun next) e).1
text_new (c ∷ cs) (Single m (CData offset more) next) e = e
text_new (c ∷ cs) (Single m (Comment offset more) next) e = e
text_new (c ∷ cs) (Single m (Pi offset target more) next) e = e
text_new (c ∷ cs) (Nested stage x kids next) e = e

kept_new : (k : Kept) (f : List Forest) → AllNew f → AllNew (kept_before k f)
kept_new (kept.Start tag) f h =
    (either_false (has_begun (inner f)) (has_begun (inner (outer f))) (inner_new f h) (inner_new (outer f) (outer_new f h)), outer_new (outer f) (outer_new f h))
kept_new kept.End f h = (refl, h)
kept_new (kept.Chars text) f h = (text_new text (inner f) (inner_new f h), outer_new f h)
kept_new (kept.CData text) f h = (inner_new f h, outer_new f h)
kept_new (kept.Comment text) f h = (inner_new f h, outer_new f h)
kept_new (kept.Pi target text) f h = (inner_new f h, outer_new f h)

lists_new : (ks : List Kept) → AllNew (lists ks)
lists_new [] = tt
lists_new (k ∷ ks) = kept_new k (lists ks) (lists_new ks)

pub forest_new : (ks : List Kept) → has_begun (forest ks) ≡ false
forest_new ks = inner_new (lists ks) (lists_new ks)
