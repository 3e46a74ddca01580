-- Files that are being read, where others were opened in them: they may still be read as far as they were.
use Rattle.std.proofs.Common.{◌≡◌, ℕ, zero, suc, ◌+◌, ◌-◌, ◌<◌, ◌≤◌, ◌⊎◌, inl, inr, Bool, true, false, List, [], ◌∷◌, ◌++◌, map, length, slice_get, Option, Some, refl, sym, ap, subst, ◌∙◌, arith, append_assoc, length-append}
use Rattle.std.proofs.lemmas.Bool.{false≢true, leb-false, leb-true}
use Rattle.std.specs.Option.{option_and_then}
use Rattle.std.specs.Prelude.{nat_le, if◌then◌else◌}
use Rattle.stx_base.specs.Course.{Begins, Over}
use Rattle.stx_base.specs.declared.limits.Limits.{Limits}
use Rattle.sheet_loader.specs.Files.{Documents, Opened, changed, fewest, file_of, file_within, files_with, grown, known_at, seen, share, wants}
use Rattle.sheet_loader.specs.Laws.{ComesToOne}
use Rattle.sheet_loader.specs.Load.{outcome}
use Rattle.sheet_loader.specs.Reading.{File, Refused}
use Rattle.sheet_loader.specs.Values.{Reads}
use Rattle.sheet_loader.specs.Versions.{language}
use Rattle.sheet_files.specs.Following.{AllTaken, WantNoFewer}
use Rattle.sheet_files.specs.Frames.{AllFit, AreCut, FitAll, Frame, Part, as_opened, cut_file, files_cut, numbers_of, opened_of, parts_of, shares, whole_file}
use Rattle.sheet_files.proofs.Counting.{greater_second}
use Rattle.sheet_files.proofs.Opening.{changed_with, files_limited, length_map, map_append, opened_with}
use Rattle.sheet_files.proofs.Reaching.{Each}
use Rattle.sheet_files.proofs.Seeing.{unchanged_map}

-- one is as the other, and as much of it may be read at least as was
pub record IsLike (f g : Frame) : Type 0 where
  pub name : g.part.name ≡ f.part.name
  pub bytes : g.part.bytes ≡ f.part.bytes
  pub done : g.done ≡ f.done
  pub known : f.taken ≤ g.part.known

abbrev pub Alike : (a b : List Frame) → Type 0
Alike [] [] = Unit {0}
Alike (f ∷ a) (g ∷ b) = IsLike f g × Alike a b
Alike a b = ⊥

-- it is the number of a file that is being read
abbrev pub IsOwn : List Frame → ℕ → Type 0
IsOwn [] n = ⊥
IsOwn (f ∷ outer) n = (n ≡ length (parts_of outer)) ⊎ IsOwn outer n

pub own_numbers : (a : List Frame) (P : ℕ → Type 0) → ((n : ℕ) → IsOwn a n → P n) → Each P (numbers_of a)
own_numbers [] P h = tt
own_numbers (f ∷ a) P h = (h (length (parts_of a)) (inl refl), own_numbers a P (λ n own. h n (inr own)))

pub like_count : (a b : List Frame) → Alike a b → length (parts_of b) ≡ length (parts_of a)
like_count [] [] like = refl
like_count [] (g ∷ b) like = absurd like
like_count (f ∷ a) [] like = absurd like
like_count (f ∷ a) (g ∷ b) like =
    let r = like_count a b like.1 in
    let d = ap (λ (l : List Part). length l) like.0.done in
    let x = length-append (parts_of b) (g.part ∷ g.done) in
    let y = length-append (parts_of a) (f.part ∷ f.done) in
    omega (arith, r, d, x, y)

pub like_own : (a b : List Frame) (n : ℕ) → Alike a b → IsOwn a n → IsOwn b n
like_own [] [] n like own = own
like_own [] (g ∷ b) n like own = absurd own
like_own (f ∷ a) [] n like own = absurd like
like_own (f ∷ a) (g ∷ b) n like (inl e) = inl (e ∙ sym (like_count a b like.1))
like_own (f ∷ a) (g ∷ b) n like (inr own) = inr (like_own a b n like.1 own)

pub like_names : (a b : List Frame) → Alike a b → map (λ (p : Part). p.name) (parts_of b) ≡ map (λ (p : Part). p.name) (parts_of a)
like_names [] [] like = refl
like_names [] (g ∷ b) like = absurd like
like_names (f ∷ a) [] like = absurd like
like_names (f ∷ a) (g ∷ b) like =
    let h : Part → List ℕ = λ p. p.name in
    map_append h (parts_of b) (g.part ∷ g.done)
    ∙ ap (λ l. l ++ g.part.name ∷ map h g.done) (like_names a b like.1)
    ∙ ap (λ (n : List ℕ). map h (parts_of a) ++ n ∷ map h g.done) like.0.name
    ∙ ap (λ (d : List Part). map h (parts_of a) ++ f.part.name ∷ map h d) like.0.done
    ∙ sym (map_append h (parts_of a) (f.part ∷ f.done))

pub like_files : (limits : Limits) (a b : List Frame) (cuts : List ℕ) → Alike a b → files_cut limits b cuts ≡ files_cut limits a cuts
like_files limits [] [] cuts like = refl
like_files limits [] (g ∷ b) cuts like = absurd like
like_files limits (f ∷ a) [] cuts like = absurd like
like_files limits (f ∷ a) (g ∷ b) [] like = refl
like_files limits (f ∷ a) (g ∷ b) (m ∷ cuts) like =
    ap (λ (l : List (Option File)). l ++ Some (cut_file limits g.part.bytes m) ∷ map (whole_file limits) g.done) (like_files limits a b cuts like.1)
    ∙ ap (λ (bs : List ℕ). files_cut limits a cuts ++ Some (cut_file limits bs m) ∷ map (whole_file limits) g.done) like.0.bytes
    ∙ ap (λ (d : List Part). files_cut limits a cuts ++ Some (cut_file limits f.part.bytes m) ∷ map (whole_file limits) d) like.0.done

pub like_fit : (limits : Limits) (a b : List Frame) → Alike a b → FitAll limits a → FitAll limits b
like_fit limits [] [] like fit = tt
like_fit limits [] (g ∷ b) like fit = absurd like
like_fit limits (f ∷ a) [] like fit = absurd like
like_fit limits (f ∷ a) (g ∷ b) like fit = (subst (AllFit limits) (sym like.0.done) fit.0, like_fit limits a b like.1 fit.1)

pub like_cut : (limits : Limits) (a b : List Frame) → Alike a b → AreCut a (shares limits b)
like_cut limits [] [] like = tt
like_cut limits [] (g ∷ b) like = absurd like
like_cut limits (f ∷ a) [] like = absurd like
like_cut limits (f ∷ a) (g ∷ b) like =
    let le : g.part.known ≤ share limits (as_opened g.part) = greater_second ((limits.sheet - g.part.before) - g.part.inside) g.part.known in
    let k = like.0.known in (omega (arith, le, k), like_cut limits a b like.1)

-- the innermost file and what was read in it, and all behind them
opened_rest : (g : Frame) (b : List Frame) (rest : List Opened) → opened_of (g ∷ b) ++ rest ≡ opened_of b ++ as_opened g.part ∷ (map as_opened g.done ++ rest)
opened_rest g b rest =
    ap (λ (l : List Opened). l ++ rest) (opened_with g b) ∙ append_assoc (opened_of b) (as_opened g.part ∷ map as_opened g.done) rest

-- A file that is being read is changed, of which as much may be read still as was.
abbrev pub KeptBy : List Frame → (n : ℕ) → (Part → Part) → Type 0
KeptBy [] n k = Unit {0}
KeptBy (f ∷ a) n k = (n ≡ length (parts_of a) → (p : Part) → f.taken ≤ p.known → f.taken ≤ (k p).known) × KeptBy a n k

module _ (h : Opened → Opened) (k : Part → Part) (same : (p : Part) → as_opened (k p) ≡ h (as_opened p)) (name : (p : Part) → (k p).name ≡ p.name) (bytes : (p : Part) → (k p).bytes ≡ p.bytes) where
  changed_own : (n : ℕ) (a b : List Frame) (rest : List Opened) → Alike a b → KeptBy a n k → IsOwn b n → (c : List Frame) × Alike a c × (changed h n (opened_of b ++ rest) ≡ opened_of c ++ rest)
  changed_own n a [] rest like kept own = absurd own
  changed_own n [] (g ∷ b) rest like kept own = absurd like
  changed_own n (f ∷ a) (g ∷ b) rest like kept (inl e) =
      let c : Frame = record g { part = k g.part } in
      let l = like.0 in
      let at : changed h n (opened_of (g ∷ b) ++ rest) ≡ opened_of (c ∷ b) ++ rest =
      ap (λ (m : ℕ). changed h m (opened_of (g ∷ b) ++ rest)) e
      ∙ changed_with h g b rest
      ∙ ap (λ (o : Opened). opened_of b ++ o ∷ (map as_opened g.done ++ rest)) (sym (same g.part))
      ∙ sym (opened_rest c b rest) in
      (c ∷ b, (record { name = name g.part ∙ l.name; bytes = bytes g.part ∙ l.bytes; done = l.done; known = kept.0 (e ∙ like_count a b like.1) g.part l.known }, like.1), at)
  changed_own n (f ∷ a) (g ∷ b) rest like kept (inr own) =
      let inner : List Opened = as_opened g.part ∷ (map as_opened g.done ++ rest) in
      let r = changed_own n a b inner like.1 kept.1 own in
      (g ∷ r.0, (like.0, r.1), ap (changed h n) (opened_rest g b rest) ∙ r.2 ∙ sym (opened_rest g r.0 rest))

-- one behind them is changed
changed_behind : {A : Type 0} (h : A → A) (n m : ℕ) (xs ys : List A) → n ≡ length xs + m → changed h n (xs ++ ys) ≡ xs ++ changed h m ys
changed_behind h n m [] ys e = let same : n ≡ m = omega (arith, e) in ap (λ k. changed h k ys) same
changed_behind h zero m (x ∷ xs) ys e = absurd (omega (arith, e))
changed_behind h (suc n) m (x ∷ xs) ys e = ap (λ l. x ∷ l) (changed_behind h n m xs ys (omega (arith, e)))

changed_first : {A : Type 0} (h : A → A) (n : ℕ) (xs ys : List A) → n < length xs → changed h n (xs ++ ys) ≡ changed h n xs ++ ys
changed_first h n [] ys lt = absurd (omega (arith, lt))
changed_first h zero (x ∷ xs) ys lt = refl
changed_first h (suc n) (x ∷ xs) ys lt = ap (λ l. x ∷ l) (changed_first h n xs ys (omega (arith, lt)))

get_first : {A : Type 0} (n : ℕ) (xs ys : List A) → n < length xs → slice_get (xs ++ ys) n ≡ slice_get xs n
get_first n [] ys lt = absurd (omega (arith, lt))
get_first zero (x ∷ xs) ys lt = refl
get_first (suc n) (x ∷ xs) ys lt = get_first n xs ys (omega (arith, lt))

abbrev pub names_opened : List Opened → List (List ℕ)
names_opened opened = map (λ (o : Opened). o.name) opened

-- The files that were opened: those that are being read, with what was read in them, and others, which have these names first.
pub record Stays (a : List Frame) (extra : List (List ℕ)) (opened : List Opened) : Type 0 where
  pub frames : List Frame
  pub others : List Opened
  pub like : Alike a frames
  pub is : opened ≡ opened_of frames ++ others
  pub names : Begins extra (names_opened others)

-- it is the number of one that is being read, or of one that was opened later
abbrev pub IsOpen : List Frame → ℕ → Type 0
IsOpen a n = (length (parts_of a) ≤ n) ⊎ IsOwn a n

abbrev in_more : (size : ℕ) → Opened → Opened
in_more size o = record o { inside = o.inside + size }

abbrev known_by : (known : ℕ) → Opened → Opened
known_by known o = record o { known = known }

-- Where it is its number, as much as was read of the file is no more than this.
abbrev pub TakenAt : List Frame → (n known : ℕ) → Type 0
TakenAt [] n known = Unit {0}
TakenAt (f ∷ a) n known = (n ≡ length (parts_of a) → f.taken ≤ known) × TakenAt a n known

module _ (a : List Frame) (extra : List (List ℕ)) where
  changed_stays : (h : Opened → Opened) (k : Part → Part) → ((p : Part) → as_opened (k p) ≡ h (as_opened p)) → ((p : Part) → (k p).name ≡ p.name) → ((p : Part) → (k p).bytes ≡ p.bytes) → ((o : Opened) → (h o).name ≡ o.name)
      → (n : ℕ) (opened : List Opened) → IsOpen a n → KeptBy a n k → Stays a extra opened → Stays a extra (changed h n opened)
  changed_stays h k same name bytes names n opened (inl later) kept s =
      let count = length_map as_opened (parts_of s.frames) ∙ like_count a s.frames s.like in
      let m = n - length (opened_of s.frames) in
      record {
        frames = s.frames;
        others = changed h m s.others;
        like = s.like;
        is = ap (changed h n) s.is ∙ changed_behind h n m (opened_of s.frames) s.others (omega (arith, count, later));
        names = subst (Begins extra) (sym (unchanged_map (λ (o : Opened). o.name) h names m s.others)) s.names;
      }
  changed_stays h k same name bytes names n opened (inr own) kept s =
      let r = changed_own h k same name bytes n a s.frames s.others s.like kept (like_own a s.frames n s.like own) in
      record { frames = r.0; others = s.others; like = r.1; is = ap (changed h n) s.is ∙ r.2; names = s.names }

  kept_more : (size n : ℕ) (b : List Frame) → KeptBy b n (λ p. record p { inside = p.inside + size })
  kept_more size n [] = tt
  kept_more size n (f ∷ b) = (λ e p h. h, kept_more size n b)

  pub grown_stays : (numbers : List ℕ) (size : ℕ) (opened : List Opened) → Each (IsOpen a) numbers → Stays a extra opened → Stays a extra (grown numbers size opened)
  grown_stays [] size opened each s = s
  grown_stays (n ∷ numbers) size opened each s =
      grown_stays numbers size (changed (in_more size) n opened) each.1
      (changed_stays (in_more size) (λ p. record p { inside = p.inside + size }) (λ p. refl) (λ p. refl) (λ p. refl) (λ o. refl) n opened each.0 (kept_more size n a) s)

  kept_known : (known n : ℕ) (b : List Frame) → TakenAt b n known → KeptBy b n (λ p. record p { known = known })
  kept_known known n [] taken = tt
  kept_known known n (f ∷ b) taken = (λ e p h. taken.0 e, kept_known known n b taken.1)

  pub seen_stays : (n : ℕ) (numbers : List ℕ) (known : ℕ) (opened : List Opened) → IsOpen a n → TakenAt a n known → Stays a extra opened → Stays a extra (seen (n ∷ numbers) known opened)
  seen_stays n numbers known opened one taken s =
      changed_stays (known_by known) (λ p. record p { known = known }) (λ p. refl) (λ p. refl) (λ p. refl) (λ o. refl) n opened one (kept_known known n a taken) s

  pub more_stays : (opened : List Opened) (o : Opened) → Stays a extra opened → Stays a extra (opened ++ o ∷ [])
  more_stays opened o s =
      let begun = s.names in
      record {
        frames = s.frames;
        others = s.others ++ o ∷ [];
        like = s.like;
        is = ap (λ (l : List Opened). l ++ o ∷ []) s.is ∙ append_assoc (opened_of s.frames) s.others (o ∷ []);
        names = (
          begun.0 ++ o.name ∷ [],
          sym (append_assoc extra begun.0 (o.name ∷ [])) ∙ ap (λ (l : List (List ℕ)). l ++ o.name ∷ []) begun.1 ∙ sym (map_append (λ (x : Opened). x.name) s.others (o ∷ [])),
        );
      }

-- the fewest is no less than what it doesn't hold before

fewest_low : (holds : ℕ → Bool) (from most : ℕ) → from ≤ fewest holds from most
fewest_low holds from zero = omega arith
fewest_low holds from (suc most) = by (holds from) (fewest_low holds (suc from) most) where
  by : (b : Bool) → suc from ≤ fewest holds (suc from) most → from ≤ (if b then from else fewest holds (suc from) most)
  by true low = omega arith
  by false low = omega (arith, low)

fewest_least : (holds : ℕ → Bool) (from most t : ℕ) → ((m : ℕ) → from ≤ m → m < t → holds m ≡ false) → t ≤ from + most → t ≤ fewest holds from most
fewest_least holds from zero t none le = omega (arith, le)
fewest_least holds from (suc most) t none le =
    by (nat_le t from) (holds from) refl refl (fewest_low holds (suc from) most) (λ l. fewest_least holds (suc from) most t (λ m low lt. none m (omega (arith, low)) lt) (omega (arith, le))) where
      by : (c b : Bool) → nat_le t from ≡ c → holds from ≡ b → suc from ≤ fewest holds (suc from) most → (from < t → t ≤ fewest holds (suc from) most) → t ≤ (if b then from else fewest holds (suc from) most)
      by true true small e low later = let l : t ≤ from = leb-true t from small in l
      by true false small e low later = let l : t ≤ from = leb-true t from small in omega (arith, l, low)
      by false true small e low later =
          let same : from ≤ from = omega arith in
          absurd (false≢true (sym (none from same (leb-false t from small)) ∙ e))
      by false false small e low later = later (leb-false t from small)

-- An include is known by no fewer bytes of a file that is being read than were read of it.
module _ (reads : Reads) (limits : Limits) (docs : Documents) (name : List ℕ) (one : ComesToOne) where
  files_with_more : (n most : ℕ) (opened rest : List Opened) → n < length opened
      → files_with language reads limits docs name n most (opened ++ rest) ≡ files_with language reads limits docs name n most opened ++ map (file_of language reads limits docs name) rest
  files_with_more n most opened rest lt =
      let file = file_of language reads limits docs name in
      let within = file_within language reads limits docs name most in
      let len = length_map file opened in
      ap (λ (o : Option Opened). changed (λ x. option_and_then within o) n (map file (opened ++ rest))) (get_first n opened rest lt)
      ∙ ap (changed (λ x. option_and_then within (slice_get opened n)) n) (map_append file opened rest)
      ∙ changed_first (λ x. option_and_then within (slice_get opened n)) n (map file opened) (map file rest) (omega (arith, len, lt))

  known_here : (f g : Frame) (a b : List Frame) (rest : List Opened) → Alike (f ∷ a) (g ∷ b) → WantNoFewer limits name (f ∷ a) → FitAll limits (f ∷ a) → f.taken ≤ limits.sheet → (n : ℕ) (ns wanted : List ℕ)
      → n ≡ length (parts_of a) → f.taken ≤ known_at language reads limits docs name (opened_of (g ∷ b) ++ rest) (n ∷ ns) wanted n
  known_here f g a b rest like fewer fit short n ns wanted e =
      let opened = opened_of (g ∷ b) in
      let files = map (file_of language reads limits docs name) rest in
      let holds : ℕ → Bool = λ most. wants (n ∷ ns) wanted (outcome reads name (files_with language reads limits docs name n most (opened ++ rest))) in
      let own : n ≡ length (parts_of b) = e ∙ sym (like_count a b like.1) in
      let count = length_map as_opened (parts_of (g ∷ b)) in
      let parts = length-append (parts_of b) (g.part ∷ g.done) in
      let inside : n < length opened = omega (arith, own, count, parts) in
      let none : (m : ℕ) → 0 ≤ m → m < f.taken → holds m ≡ false =
      λ m low lt.
      let cut = files_cut limits (f ∷ a) (m ∷ shares limits b) in
      let is : files_with language reads limits docs name n m (opened ++ rest) ≡ cut ++ files =
      files_with_more n m opened rest inside
      ∙ ap (λ (k : ℕ). files_with language reads limits docs name k m opened ++ files) own
      ∙ ap (λ (l : List (Option File)). l ++ files) (files_limited reads limits docs name g b m (like_fit limits (f ∷ a) (g ∷ b) like fit) ∙ like_files limits (f ∷ a) (g ∷ b) (m ∷ shares limits b) like) in
      let short = fewer.0 m lt reads (shares limits b) (like_cut limits a b like.1) files in
      let over : outcome reads name (cut ++ files) ≡ Over short.0 (Refused short.1 short.2) = sym ((one reads name (cut ++ files)).1 (Over short.0 (Refused short.1 short.2)) short.3) in
      ap (λ (l : List (Option File)). wants (n ∷ ns) wanted (outcome reads name l)) is ∙ ap (wants (n ∷ ns) wanted) over in
      fewest_least holds 0 limits.sheet f.taken none (omega (arith, short))

  pub known_enough : (a b : List Frame) (rest : List Opened) → Alike a b → WantNoFewer limits name a → FitAll limits a → AllTaken limits a → (n : ℕ) (ns wanted : List ℕ)
      → TakenAt a n (known_at language reads limits docs name (opened_of b ++ rest) (n ∷ ns) wanted n)
  known_enough [] b rest like fewer fit short n ns wanted = tt
  known_enough (f ∷ a) [] rest like fewer fit short n ns wanted = absurd like
  known_enough (f ∷ a) (g ∷ b) rest like fewer fit short n ns wanted =
      let inner : List Opened = as_opened g.part ∷ (map as_opened g.done ++ rest) in (
        known_here f g a b rest like fewer fit short.0 n ns wanted,
        subst (λ (l : List Opened). TakenAt a n (known_at language reads limits docs name l (n ∷ ns) wanted n)) (sym (opened_rest g b rest)) (known_enough a b inner like.1 fewer.1 fit.1 short.1 n ns wanted),
      )
