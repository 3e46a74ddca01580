-- One text more among those that were counted.
use Rattle.std.proofs.Common.{◌≡◌, ℕ, ◌+◌, Bool, true, false, cond, if◌then◌else◌, List, Option, Some, None, Result, Ok, Err, OnOk, OnErr, refl, ap, sym, ◌∙◌, subst, arith, string_bytes, is_some}
use Rattle.std.specs.BTreeMap.{get, get_by_text, btree_map_len, Updates, UpdatesBy}
use Rattle.std.specs.Cmp.Lexicographic.{slice_cmp}
use Rattle.std.specs.Map.{update}
use Rattle.std.specs.Ordering.{nat_cmp}
use Rattle.std.specs.Str.{bytes_eq}
use Rattle.std.specs.String.{string_cmp}
use Rattle.std.specs.declared.alloc.Global.{Global}
use Rattle.std.specs.declared.string.String.{String}
use Rattle.std.proofs.lemmas.Map.Text.{btree_map_updates_text}
use Rattle.std.proofs.lemmas.Slice.Eq.{bytes_eq-Decides}
use Rattle.node_stack.specs.Times.{more, once_more, CountsText, Texts}

-- what was looked up at the text is what is looked up at bytes equal to it
at_text : (f : List ℕ → Option ℕ) (text cs : List ℕ) (w : Option ℕ) → w ≡ once_more (f text) → (b : Bool) → bytes_eq text cs ≡ b → cond b w (f cs) ≡ (if b then once_more (f cs) else f cs)
at_text f text cs w e true t = e ∙ ap (λ ds. once_more (f ds)) ((bytes_eq-Decides text cs).0 t)
at_text f text cs w e false t = refl

text_counted : (f g : List ℕ → Option ℕ) (text : List ℕ) (w : Option ℕ) → w ≡ once_more (f text) → ((cs : List ℕ) → g cs ≡ update bytes_eq f text w cs) → (cs : List ℕ) → g cs ≡ (if bytes_eq text cs then once_more (f cs) else f cs)
text_counted f g text w e h cs = h cs ∙ at_text f text cs w e (bytes_eq text cs) refl

-- a text that is there already
pub counts_again : (old new : Texts) (bs text : List ℕ) (again w : ℕ) → bs ≡ text → get_by_text old bs ≡ Some again → w ≡ more again → UpdatesBy string_cmp (λ k. slice_cmp nat_cmp bs (string_bytes k)) old new (Some w) → btree_map_len new ≡ btree_map_len old → CountsText old new text
counts_again old new bs text again w same found is updates len =
    subst (CountsText old new) same (record {
      counted = text_counted (get_by_text old) (get_by_text new) bs (Some w) (ap Some is ∙ sym (ap once_more found)) (btree_map_updates_text bs old new _ updates);
      len = len ∙ rw found (omega arith);
    })

-- a text that wasn't there
pub counts_first : (old new : Texts) (key : String Global) (text : List ℕ) → string_bytes key ≡ text → get_by_text old text ≡ None → Updates string_cmp old new key (Some 0) → (o : Option ℕ) → o ≡ get string_cmp old key → btree_map_len new ≡ btree_map_len old + (if is_some o then 0 else 1) → CountsText old new text
counts_first old new key text same absent updates o is len =
    let gone : o ≡ None = is ∙ ap (get_by_text old) same ∙ absent in
    record {
      counted = text_counted (get_by_text old) (get_by_text new) text (Some 0) (sym (ap once_more absent))
          (rw same at (btree_map_updates_text (string_bytes key) old new _ updates));
      len = rw absent (rw gone at len);
    }

-- what follows from two facts of an answer
pub on_ok : {T E A B C : Type 0} (r : Result T E) → OnOk r A → OnOk r B → (A → B → C) → OnOk r C
on_ok (Ok x) a b f = f a b
on_ok (Err e) a b f = a

pub on_err : {T E A B C : Type 0} (r : Result T E) → OnErr r A → OnErr r B → (A → B → C) → OnErr r C
on_err (Ok x) a b f = a
on_err (Err e) a b f = f a b

pub any_err : {T E A : Type 0} (r : Result T E) → A → OnErr r A
any_err (Ok x) a = tt
any_err (Err e) a = a
