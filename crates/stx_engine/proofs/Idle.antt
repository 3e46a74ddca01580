-- Acts that read nothing of the main document.
use Rattle.std.proofs.Common.{◌≡◌, ℕ, zero, suc, ◌==◌, ◌||◌, Bool, true, false, if◌then◌else◌, List, [], ◌∷◌, ◌++◌, Option, Some, None, IfSome, slice_get, refl, sym, ◌∙◌, arith}
use Rattle.std.specs.List.{list_any}
use Rattle.std.specs.Option.{option_map_or}
use Rattle.std.proofs.lemmas.Bool.{false≢true}
use Rattle.stx_host.specs.Before.{AtMainReads, Taken, act_read, is_main_read, main_read}
use Rattle.stx_host.specs.declared.act.Act.{Act}
use Rattle.stx_host.specs.declared.act.Act.TheVariants.{Open, Read, Close, Write}
use Rattle.sheet_runs.specs.Reading.{main_gots}

pub of_any : {X : Type 0} (o : Option X) (P : X → Type 0) → ((x : X) → P x) → IfSome o P
of_any None P all = tt
of_any (Some x) P all = all x

or_first : (a b : Bool) → (a || b) ≡ false → a ≡ false
or_first true b e = absurd (false≢true (sym e))
or_first false b e = refl

or_second : (a b : Bool) → (a || b) ≡ false → b ≡ false
or_second true b e = absurd (false≢true (sym e))
or_second false b e = e

not_gotten : (b : Bool) (got : ℕ) (gots : List ℕ) → b ≡ false → (if b then got ∷ [] else []) ++ gots ≡ gots
not_gotten true got gots e = absurd (false≢true (sym e))
not_gotten false got gots e = refl

pub no_main_gots : (acts : List Act) → list_any is_main_read acts ≡ false → main_gots acts ≡ []
no_main_gots [] e = refl
no_main_gots (Open doc id ∷ acts) e = no_main_gots acts e
no_main_gots (Read id got ∷ acts) e =
    not_gotten (id == 0) got (main_gots acts) (or_first (id == 0) (list_any is_main_read acts) e) ∙ no_main_gots acts (or_second (id == 0) (list_any is_main_read acts) e)
no_main_gots (Close id ∷ acts) e = no_main_gots acts e
no_main_gots (Write lane len ∷ acts) e = no_main_gots acts e

not_read : (b : Bool) (got : ℕ) → b ≡ false → (if b then got else 0) ≡ 0
not_read true got e = absurd (false≢true (sym e))
not_read false got e = refl

act_reads_nothing : (act : Act) → is_main_read act ≡ false → act_read act ≡ 0
act_reads_nothing (Open doc id) e = refl
act_reads_nothing (Read id got) e = not_read (id == 0) got e
act_reads_nothing (Close id) e = refl
act_reads_nothing (Write lane len) e = refl

pub nothing_read : (acts : List Act) → list_any is_main_read acts ≡ false → main_read acts ≡ 0
nothing_read [] e = refl
nothing_read (act ∷ acts) e =
    let here : act_read act ≡ 0 = act_reads_nothing act (or_first (is_main_read act) (list_any is_main_read acts) e) in
    let rest : main_read acts ≡ 0 = nothing_read acts (or_second (is_main_read act) (list_any is_main_read acts) e) in
    omega arith

no_read_at : (acts : List Act) (k : ℕ) → list_any is_main_read acts ≡ false → option_map_or is_main_read (slice_get acts k) false ≡ false
no_read_at [] k e = refl
no_read_at (act ∷ acts) zero e = or_first (is_main_read act) (list_any is_main_read acts) e
no_read_at (act ∷ acts) (suc k) e = no_read_at acts k (or_second (is_main_read act) (list_any is_main_read acts) e)

-- what is said of main reads holds where there are none
pub no_main_reads : (acts : List Act) (out note : List ℕ) (P : Taken → Type 0) → list_any is_main_read acts ≡ false → AtMainReads acts out note P
no_main_reads acts out note P e k is_read = absurd (false≢true (sym (no_read_at acts k e) ∙ is_read))
