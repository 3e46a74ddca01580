-- One name more among those that were counted.
use Rattle.std.proofs.Common.{◌≡◌, length, ℕ, ◌+◌, Bool, true, false, cond, if◌then◌else◌, ◌&&◌, List, [], Option, Some, None, refl, ap, sym, ◌∙◌, subst, arith, string_bytes, sum_by}
use Rattle.std.specs.BTreeMap.{get_by_text, btree_map_len, insert_entry, is_at, IsOrdered, Updates, UpdatesBy}
use Rattle.std.specs.Cmp.Lexicographic.{slice_cmp}
use Rattle.std.specs.Map.{lookup, set_value, update, values_of}
use Rattle.std.specs.Option.{is_none, option_and_then, option_map_or}
use Rattle.std.specs.Ordering.{nat_cmp}
use Rattle.std.specs.Str.{bytes_eq}
use Rattle.std.specs.String.{string_cmp, string_cmp_total}
use Rattle.std.specs.declared.alloc.Global.{Global}
use Rattle.std.specs.declared.string.String.{String}
use Rattle.std.proofs.lemmas.Map.Entries.{sum_by-insert_entry, sum_by-set_value}
use Rattle.std.proofs.lemmas.Map.Text.{btree_map_updates_text}
use Rattle.std.proofs.lemmas.Slice.Eq.{bytes_eq-Decides}
use Rattle.node_stack.specs.Names.{again_of, elements_of, names_of, CountsName, Namespaces, SameNames}
use Rattle.node_stack.specs.Times.{more, once_more, CountsText, Texts}
use Rattle.node_stack.specs.declared.names.Namespace.{Namespace}

-- a namespace by its URI
abbrev Found : Type 0
Found = List ℕ → Option Namespace

-- what one namespace counts
abbrev inner : Option Namespace → List ℕ → Option ℕ
inner o ds = option_and_then (λ n. get_by_text n.names ds) o

abbrev total : Option Namespace → ℕ
total o = option_map_or (λ n. n.elements) o 0

-- the namespace of the URI is another one now, which has the local part once more
abbrev Counts : Option Namespace → Namespace → List ℕ → Type 0
Counts o w local = (ds : List ℕ) → get_by_text w.names ds ≡ (if bytes_eq local ds then once_more (inner o ds) else inner o ds)

counted_at : (f : Found) (uri local : List ℕ) (w : Namespace) → Counts (f uri) w local → (cs ds : List ℕ) (b : Bool) → bytes_eq uri cs ≡ b
    → inner (cond b (Some w) (f cs)) ds ≡ (if b && bytes_eq local ds then once_more (inner (f cs) ds) else inner (f cs) ds)
counted_at f uri local w h cs ds true e =
    let same : uri ≡ cs = (bytes_eq-Decides uri cs).0 e in
    h ds ∙ ap (λ us. if bytes_eq local ds then once_more (inner (f us) ds) else inner (f us) ds) same
counted_at f uri local w h cs ds false e = refl

elements_at : (f : Found) (uri : List ℕ) (w : Namespace) → w.elements ≡ more (total (f uri)) → (cs : List ℕ) (b : Bool) → bytes_eq uri cs ≡ b
    → total (cond b (Some w) (f cs)) ≡ (if b then more (total (f cs)) else total (f cs))
elements_at f uri w h cs true e = h ∙ ap (λ us. more (total (f us))) ((bytes_eq-Decides uri cs).0 e)
elements_at f uri w h cs false e = refl

counts_name : (old new : Namespaces) (uri local : List ℕ) (w : Namespace)
    → ((cs : List ℕ) → get_by_text new cs ≡ update bytes_eq (get_by_text old) uri (Some w) cs)
    → Counts (get_by_text old uri) w local
    → w.elements ≡ more (elements_of old uri)
    → names_of new ≡ names_of old + (if is_none (again_of old uri local) then 1 else 0)
    → CountsName old new uri local
counts_name old new uri local w found counted elements len = record {
  counted = λ cs ds. ap (λ o. inner o ds) (found cs) ∙ counted_at (get_by_text old) uri local w counted cs ds (bytes_eq uri cs) refl;
  elements = λ cs. ap total (found cs) ∙ elements_at (get_by_text old) uri w elements cs (bytes_eq uri cs) refl;
  len = len;
}

-- in a namespace that is there already
pub counts_in : (old new : Namespaces) (bs uri local : List ℕ) (n w : Namespace) → bs ≡ uri → get_by_text old bs ≡ Some n
    → UpdatesBy string_cmp (λ k. slice_cmp nat_cmp bs (string_bytes k)) old new (Some w)
    → new.entries ≡ set_value (is_at (λ k. slice_cmp nat_cmp bs (string_bytes k))) old.entries w
    → w.elements ≡ more n.elements → CountsText n.names w.names local
    → CountsName old new uri local
counts_in old new bs uri local n w same found updates entries elements names =
    let size : Namespace → ℕ = λ n. btree_map_len n.names in
    let sums : sum_by size (values_of (set_value (is_at (λ k. slice_cmp nat_cmp bs (string_bytes k))) old.entries w)) + size n ≡ sum_by size (values_of old.entries) + size w = sum_by-set_value size _ old.entries n w found in
    let len : names_of new + size n ≡ names_of old + size w = ap (λ es. sum_by size (values_of es) + size n) entries ∙ sums in
    let grown : size w ≡ size n + (if is_none (get_by_text n.names local) then 1 else 0) = names.len in
    subst (λ us. CountsName old new us local) same
    (counts_name old new bs local w (btree_map_updates_text bs old new _ updates)
    (rw found names.counted) (rw found elements) (rw found (omega arith)))

-- in a namespace that wasn't there
pub counts_new : (old new : Namespaces) (key : String Global) (uri local : List ℕ) (e : Texts) (w : Namespace) → string_bytes key ≡ uri → get_by_text old uri ≡ None
    → Updates string_cmp old new key (Some w)
    → new.entries ≡ insert_entry string_cmp old.entries key w → IsOrdered string_cmp old
    → w.elements ≡ more 0 → e.entries ≡ [] → CountsText e w.names local
    → CountsName old new uri local
counts_new old new key uri local e w same absent updates entries ordered elements empty names =
    let size : Namespace → ℕ = λ n. btree_map_len n.names in
    let gone : get_by_text old (string_bytes key) ≡ None = ap (get_by_text old) same ∙ absent in
    let nothing : (ds : List ℕ) → get_by_text e ds ≡ None = λ ds. ap (lookup (is_at (λ k. slice_cmp nat_cmp ds (string_bytes k)))) empty in
    let sums = sum_by-insert_entry size string_cmp_total old.entries key w ordered in
    let len : names_of new + 0 ≡ names_of old + size w = ap (λ es. sum_by size (values_of es) + 0) entries ∙ (rw gone at sums) in
    let one : size w ≡ 1 = names.len ∙ rw (nothing local, empty) refl in
    subst (λ us. CountsName old new us local) same
    (counts_name old new (string_bytes key) local w (btree_map_updates_text (string_bytes key) old new _ updates)
    (rw gone (λ ds. names.counted ds ∙ rw (nothing ds) refl)) (rw gone elements) (rw gone (omega arith)))

kept_inner : (f : Found) (bs : List ℕ) (n w : Namespace) → f bs ≡ Some n → ((ds : List ℕ) → get_by_text w.names ds ≡ get_by_text n.names ds) → (cs ds : List ℕ) (b : Bool) → bytes_eq bs cs ≡ b → inner (cond b (Some w) (f cs)) ds ≡ inner (f cs) ds
kept_inner f bs n w found h cs ds true e = h ds ∙ ap (λ o. inner o ds) (sym found ∙ ap f ((bytes_eq-Decides bs cs).0 e))
kept_inner f bs n w found h cs ds false e = refl

kept_total : (f : Found) (bs : List ℕ) (n w : Namespace) → f bs ≡ Some n → w.elements ≡ n.elements → (cs : List ℕ) (b : Bool) → bytes_eq bs cs ≡ b → total (cond b (Some w) (f cs)) ≡ total (f cs)
kept_total f bs n w found h cs true e = h ∙ ap total (sym found ∙ ap f ((bytes_eq-Decides bs cs).0 e))
kept_total f bs n w found h cs false e = refl

-- where the namespace is as it was, so are all
pub same_names : (old new : Namespaces) (bs : List ℕ) (n w : Namespace) → get_by_text old bs ≡ Some n
    → UpdatesBy string_cmp (λ k. slice_cmp nat_cmp bs (string_bytes k)) old new (Some w)
    → new.entries ≡ set_value (is_at (λ k. slice_cmp nat_cmp bs (string_bytes k))) old.entries w
    → w.elements ≡ n.elements → w.names.entries ≡ n.names.entries
    → SameNames old new
same_names old new bs n w found updates entries elements names =
    let size : Namespace → ℕ = λ n. btree_map_len n.names in
    let sums : sum_by size (values_of (set_value (is_at (λ k. slice_cmp nat_cmp bs (string_bytes k))) old.entries w)) + size n ≡ sum_by size (values_of old.entries) + size w = sum_by-set_value size _ old.entries n w found in
    let same : size w ≡ size n = ap (λ es. length es) names in
    let len : names_of new + size n ≡ names_of old + size w = ap (λ es. sum_by size (values_of es) + size n) entries ∙ sums in
    let after = btree_map_updates_text bs old new _ updates in
    record {
      counted = λ cs ds. ap (λ o. inner o ds) (after cs) ∙ kept_inner (get_by_text old) bs n w found (λ ds. ap (lookup (is_at (λ k. slice_cmp nat_cmp ds (string_bytes k)))) names) cs ds (bytes_eq bs cs) refl;
      elements = λ cs. ap total (after cs) ∙ kept_total (get_by_text old) bs n w found elements cs (bytes_eq bs cs) refl;
      len = omega arith;
    }
