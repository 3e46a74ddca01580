-- Parts that are put one after another.
use Rattle.std.proofs.Common.{◌≡◌, ℕ, List, [], ◌∷◌, ◌++◌, Option, Some, None, Result, Ok, Err, length, map, reverse, refl, ap, sym, subst, ◌∙◌, arith}
use Rattle.std.specs.Prelude.{IfErr, OnOk}
use Rattle.std.specs.Result.{result_map_both}
use Rattle.stx_base.specs.Course.{Halt, Say, says}
use Rattle.stx_base.specs.declared.fault.Place.{Place}
use Rattle.stx_base.specs.declared.name.Attr.{Attr}
use Rattle.stx_base.specs.declared.part.Part.{Part}
use Rattle.event_buffers.specs.Buffers.{refusal_at}
use Rattle.result_writer.specs.Target as writing
use Rattle.result_writer.specs.Target.{IsCause, Left, Target, behind, first_fault, left_by, next, or_else}
use Rattle.result_writer.specs.declared.fault.ResultFault.{ResultFault}
use Rattle.result_writer.specs.declared.fault.WriteStop.{WriteStop}
use Rattle.result_writer.specs.declared.fault.WriteStop.TheVariants as write
use Rattle.template_machine.specs.Ending.{Faulted, Put, Said, Spent, fault_at, result_code}
use Rattle.template_machine.specs.Job.{Does, Given, State}
use Rattle.template_machine.specs.Putting.{attribute_part, kept_in, put_in, put_out, put_to, puts, unless_fault, unless_refused}
use Rattle.template_machine.specs.Puts.{first_target}
use Rattle.template_machine.specs.Saying.{GoesAs, Puts, placed}
use Rattle.template_machine.specs.Sinks.{TakesInTurn, all_put, behind_all}
use Rattle.template_machine.specs.Stops.{by_part}
use Rattle.template_machine.specs.declared.putting.Putting.{Putting}
use Rattle.template_machine.specs.declared.stop.Stop.{Stop}
use Rattle.template_machine.specs.declared.stop.Stop.TheVariants as stop
use Rattle.template_machine.proofs.Onward.{limit_is}
use Rattle.template_machine.proofs.Saying.{answered, goes_alike, goes_further, to_buffer, to_output}

-- Some parts, and then others.

put_alike : (given : Given) (targets : List ℕ) (at : Place) (p : Part) (st : State) (go k : State → Does) → ((s : State) → go s ≡ k s)
    → put_to given targets at p st go ≡ put_to given targets at p st k
put_alike given [] at p st go k same =
    ap (λ x. unless_fault (writing.fault given.limits.elements st.result p) at (Say (Put p) x)) (same (put_out p st))
put_alike given (id ∷ targets) at p st go k same = ap (unless_refused (refusal_at st.buffers id p) at) (same (kept_in id p st))

pub puts_append : (given : Given) (at : Place) (ps qs : List Part) (st : State) (go : State → Does)
    → puts given at (ps ++ qs) st go ≡ puts given at ps st (λ st. puts given at qs st go)
puts_append given at [] qs st go = refl
puts_append given at (p ∷ ps) qs st go =
    put_alike given st.targets at p st (λ s. puts given at (ps ++ qs) s go) (λ s. puts given at ps s (λ s. puts given at qs s go)) (λ s. puts_append given at ps qs s go)

-- What a sink takes.

none_both : (a b : Option ResultFault) → or_else a b ≡ None → (a ≡ None) × (b ≡ None)
none_both None b h = (refl, h)
none_both (Some f) b h = absurd (cc)

-- parts without a fault are said, and then the others are put
out_in_turn : (given : Given) (at : Place) (taken rest : List Part) (st : State) (go : State → Does) → first_target st.targets ≡ None
    → first_fault given.limits.elements st.result taken ≡ None
    → puts given at (taken ++ rest) st go ≡ says (all_put taken) (puts given at rest (record st { result = left_by st.result taken }) go)
out_in_turn given at [] rest st go none good = refl
out_in_turn given at (p ∷ ps) rest st go none good =
    let both = none_both (writing.fault given.limits.elements st.result p) (first_fault given.limits.elements (next st.result p) ps) good in
    to_output given st.targets at p st (λ s. puts given at (ps ++ rest) s go) none
    ∙ ap (λ o. unless_fault o at (Say (Put p) (puts given at (ps ++ rest) (put_out p st) go))) both.0
    ∙ ap (Say (Put p)) (out_in_turn given at ps rest (put_out p st) go none both.1)

left_behind : (t : Target) (ps : List Part) → (behind_all t (all_put ps)).left ≡ left_by t.left ps
left_behind t [] = refl
left_behind t (p ∷ ps) = left_behind (behind t p) ps

module _ (given : Given) (at : Place) (parts taken rest : List Part) (whole : parts ≡ taken ++ rest) (putting : Putting) (left : Left) (limit : ℕ) (same_limit : limit ≡ given.limits.elements)
    (good : first_fault limit left taken ≡ None) (none : first_target (reverse putting.targets) ≡ None) (st : State) (go : State → Does) where
  abbrev behind_taken : State
  behind_taken = placed putting (left_by left taken) st

  so_far : puts given at parts (placed putting left st) go ≡ says (all_put taken) (puts given at rest behind_taken go)
  so_far =
      ap (λ l. puts given at l (placed putting left st) go) whole
      ∙ out_in_turn given at taken rest (placed putting left st) go none (subst (λ n. first_fault n left taken ≡ None) same_limit good)

  in_turn_goes : {A : Type 0} (r : Result A WriteStop) (left_now : Left) → left_by left taken ≡ left_now → OnOk r (rest ≡ [])
      → IfErr r (λ stop. (p : Part) × ((ps : List Part) × ((rest ≡ p ∷ ps) × IsCause (writing.fault limit (left_by left taken) p) stop)))
      → GoesAs (result_map_both (λ done. done) (by_part at) r) (puts given at parts (placed putting left st) go) (all_put taken) (go (placed putting left_now st))
  in_turn_goes (Ok done) left_now now all refused =
      so_far ∙ ap (λ l. says (all_put taken) (puts given at l behind_taken go)) all ∙ ap (λ l. says (all_put taken) (go (placed putting l st))) now
  in_turn_goes (Err (write.Fault f)) left_now now all refused =
      let p : Part = refused.0 in
      let ps : List Part = refused.1.0 in
      let x : Does = Say (Put p) (puts given at ps (put_out p behind_taken) go) in
      so_far
      ∙ ap (λ l. says (all_put taken) (puts given at l behind_taken go)) refused.1.1.0
      ∙ ap (says (all_put taken))
      (to_output given (reverse putting.targets) at p behind_taken (λ s. puts given at ps s go) none
      ∙ ap (λ n. unless_fault (writing.fault n (left_by left taken) p) at x) (sym same_limit)
      ∙ ap (λ o. unless_fault o at x) refused.1.1.1)
  in_turn_goes (Err write.Memory) left_now now all refused = (puts given at rest behind_taken go, so_far)

module _ {S : Type 0} (output : S → Target) (told : S → S → List Said → Type 0) (leaves : (a b : S) (said : List Said) → told a b said → output b ≡ behind_all (output a) said) where
  -- parts that a sink is told
  pub puts_in_turn : {A : Type 0} (at : Place) (parts : List Part) (r : Result A WriteStop) (putting : Putting) (out out_now : S) → TakesInTurn output told parts r out out_now
      → first_target (reverse putting.targets) ≡ None → Puts output told at parts (result_map_both (λ done. done) (by_part at) r) putting putting out out_now
  puts_in_turn at parts r putting out out_now t none = record {
    said = all_put t.taken;
    tells = t.said;
    does = λ given limit st go.
        in_turn_goes given at parts t.taken t.rest t.whole putting (output out).left (output out).limit limit t.allowed none st go r (output out_now).left
        (sym (ap (λ (x : Target). x.left) (leaves out out_now (all_put t.taken) t.said) ∙ left_behind (output out) t.taken)) t.all t.refused;
  }

  -- parts that are put, and then others
  pub puts_then : {A B : Type 0} → ((a b c : S) (first second : List Said) → told a b first → told b c second → told a c (first ++ second)) → (at : Place) (ps qs : List Part) (done : A) (r : Result B Stop) (old mid new : Putting)
      (out out_mid out_now : S) → Puts output told at ps (Ok done) old mid out out_mid → Puts output told at qs r mid new out_mid out_now → Puts output told at (ps ++ qs) r old new out out_now
  puts_then further at ps qs done r old mid new out out_mid out_now first second = record {
    said = first.said ++ second.said;
    tells = further out out_mid out_now first.said second.said first.tells second.tells;
    does = λ given limit st go.
        goes_further r (puts given at (ps ++ qs) (placed old (output out).left st) go) (puts given at qs (placed mid (output out_mid).left st) go) (go (placed new (output out_now).left st)) first.said second.said
        (puts_append given at ps qs (placed old (output out).left st) go ∙ first.does given limit st (λ s. puts given at qs s go))
        (second.does given (limit_is output told leaves given out out_mid first.said first.tells limit) st go);
  }

-- Parts of which one is refused.
pub stops_anyhow : (A B : Type 0) (e : Stop) (x y z : Does) (said : List Said) → GoesAs {A = A} (Err e) x said y → GoesAs {A = B} (Err e) x said z
stops_anyhow A B (stop.Fault f) x y z said h = h
stops_anyhow A B (stop.Spent at) x y z said h = h
stops_anyhow A B stop.Memory x y z said h = h

goes_by : {A : Type 0} (r : Result A Stop) (x w y : Does) (said : List Said) → x ≡ w → GoesAs r w said y → GoesAs r x said y
goes_by r x w y said same h = subst (λ v. GoesAs r v said y) (sym same) h

module _ {S : Type 0} (output : S → Target) (told : S → S → List Said → Type 0) where
  pub puts_stopped : {A B : Type 0} (at : Place) (ps qs : List Part) (e : Stop) (old new other : Putting) (out out_now : S) → Puts {A = A} output told at ps (Err e) old new out out_now
      → Puts {A = B} output told at (ps ++ qs) (Err e) old other out out_now
  puts_stopped {A = A} {B = B} at ps qs e old new other out out_now q = record {
    said = q.said;
    tells = q.tells;
    does = λ given limit st go.
        let k : State → Does = λ s. puts given at qs s go in
        let start = placed old (output out).left st in
        goes_by {A = B} (Err e) _ _ _ q.said (puts_append given at ps qs start go)
        (stops_anyhow A B e (puts given at ps start k) (k (placed new (output out_now).left st)) (go (placed other (output out_now).left st)) q.said (q.does given limit st k));
  }

  -- with another answer
  pub puts_answered : {A B : Type 0} (at : Place) (ps : List Part) (r : Result A Stop) (b : B) (old new : Putting) (out out_now : S) → Puts output told at ps r old new out out_now
      → Puts output told at ps (answered r b) old new out out_now
  puts_answered at ps r b old new out out_now q = record {
    said = q.said;
    tells = q.tells;
    does = λ given limit st go. goes_alike output told r b (puts given at ps (placed old (output out).left st) go) (go (placed new (output out_now).left st)) q.said (q.does given limit st go);
  }

  -- parts that go into the innermost buffer that is written
  pub puts_all_in : {A : Type 0} → ((s : S) → told s s []) → (at : Place) (ps : List Part) (r : Result A Stop) (old new : Putting) (out : S)
      → ((given : Given) (left : Left) (st : State) (go : State → Does) → GoesAs r (puts given at ps (placed old left st) go) [] (go (placed new left st)))
      → Puts output told at ps r old new out out
  puts_all_in nothing at ps r old new out keeps = record { said = []; tells = nothing out; does = λ given limit st go. keeps given (output out).left st go }

-- What a buffer takes: parts that it has taken, and then one more, or one that it refuses.

abbrev pub KeepsAll : Place → List Part → (old new : Putting) → Type 0
KeepsAll at ps old new = (given : Given) (left : Left) (st : State) (go : State → Does) → puts given at ps (placed old left st) go ≡ go (placed new left st)

module _ (buffer : ℕ) (at : Place) where
  module _ (ps : List Part) (p : Part) (old mid new : Putting) (kept : KeepsAll at ps old mid) (there : first_target (reverse mid.targets) ≡ Some buffer) where
    next_kept : (qs : List Part) (given : Given) (left : Left) (st : State) (go : State → Does)
        → puts given at (ps ++ p ∷ qs) (placed old left st) go ≡ put_in buffer at p (placed mid left st) (λ s. puts given at qs s go)
    next_kept qs given left st go =
        puts_append given at ps (p ∷ qs) (placed old left st) go ∙ kept given left st (λ s. puts given at (p ∷ qs) s go)
        ∙ to_buffer given buffer (reverse mid.targets) at p (placed mid left st) (λ s. puts given at qs s go) there

    pub keeps_more : {A : Type 0} (done : A) → ((left : Left) (st : State) (go : State → Does) → GoesAs {A = A} (Ok done) (put_in buffer at p (placed mid left st) go) [] (go (placed new left st)))
        → KeepsAll at (ps ++ p ∷ []) old new
    keeps_more done keeps = λ given left st go. next_kept [] given left st go ∙ keeps left st go

    pub keeps_stopped : (A B : Type 0) (qs : List Part) (e : Stop) → ((left : Left) (st : State) (go : State → Does) → GoesAs {A = B} (Err e) (put_in buffer at p (placed mid left st) go) [] (go (placed new left st)))
        → (given : Given) (left : Left) (st : State) (go : State → Does) → GoesAs {A = A} (Err e) (puts given at (ps ++ p ∷ qs) (placed old left st) go) [] (go (placed new left st))
    keeps_stopped A B qs e keeps = λ given left st go.
        let k : State → Does = λ s. puts given at qs s go in
        goes_by {A = A} (Err e) _ _ _ [] (next_kept qs given left st go) (stops_anyhow B A e (put_in buffer at p (placed mid left st) k) (k (placed new left st)) (go (placed new left st)) [] (keeps left st k))

pub parts_more : (xs ys : List Attr) → map attribute_part (xs ++ ys) ≡ map attribute_part xs ++ map attribute_part ys
parts_more [] ys = refl
parts_more (x ∷ xs) ys = ap (λ l. attribute_part x ∷ l) (parts_more xs ys)

pub none_left : {A : Type 0} (l : List A) → length l ≡ 0 → l ≡ []
none_left [] h = refl
none_left (x ∷ xs) h = absurd (omega arith)
