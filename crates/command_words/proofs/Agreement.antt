-- Clap finds for the command line what its words say, and refuses exactly the words that can't be read.
use Rattle.std.proofs.Common.{◌≡◌, ◌∙◌, inl, inr, ◌++◌, ◌&&◌, ℕ, Bool, true, false, cond, refl, sym, ap, ap₂, subst, List, [], ◌∷◌, map, codes, ◌==◌, ◌≢◌, IsUtf8, String, string_bytes, Ok, Err}
use Rattle.std.proofs.lemmas.Str.{IsUtf8-string_bytes}
use Rattle.std.proofs.lemmas.Bool.{eqb-true}
use Rattle.std.specs.Prelude.{Option, Some, None, is_some, option_and_then}
use Rattle.std.specs.Option.{option_map_or}
use Rattle.std.specs.Str.{bytes_eq}
use Rattle.clap.specs.Faults.{entered_fault, fault_of, is_simple_and_free, level_fault, settle_fault}
use Rattle.clap.specs.Kinds.{HasKind, IsAmong, Kinds, or_else}
use Rattle.clap.specs.Matches.{found_of}
use Rattle.clap.specs.Values.{kind_of}
use Rattle.clap.specs.declared.error.Error.{Error}
use Rattle.clap.specs.declared.error.kind.ErrorKind.TheVariants.{OutOfMemory}
use Rattle.clap.specs.declared.parser.matches.ArgMatches.{ArgMatches}
use Rattle.clap.specs.Lexer.{long_of_rest, short_of_rest, strip_byte}
use Rattle.clap.specs.Simple.{built, entered, is_simple}
use Rattle.clap.specs.Walk.{Held, Row, Rule, Text, Waiting, Walk, arg_by_long, idle, nothing_held, option, positional, rows_after, rows_of, settled, walk, walked}
use Rattle.command_words.specs.Said.{Numbered, Said, free, check, number, Kind, plain, checks, has, awaits, unknown, Word, after_equals, before_equals, has_equals, kind, long_kind, name_of, named, put, said_by, said_from, with_value, without_value}
use Rattle.command_words.specs.Finding.{Finds, Tells, command_line}
use Rattle.command_words.specs.declared.fault.WordsFault.{WordsFault}
use Rattle.command_words.specs.declared.fault.WordsFault.TheVariants.{Usage, Memory}
use Rattle.command_words.proofs.Found.{both_ways}
use Rattle.command_words.proofs.Reading.{Agrees, Calm, IsLong, IsNoFlag, IsShort, Ready, Shows, Which, at, at_end, awaiting, calm_to, calm_turn, check_built, end_fault, ended, failed, fails, first_fails, free_pending, holding, long_to, long_turn, number_rule, one_more, passes, ready_free, ready_number, ready_used, rows_with, rules, shape, short_refused, trail_agrees, trail_fails, unsettled, wait_to, wait_turn, which}

-- what is shown of the words behind a word
abbrev Calmly : List Word → Type 0
Calmly words = (said : List Said) (rows : List Row) (p : Option (Text × List Text)) (w : Waiting) → Calm w → Ready said rows p
    → Shows said (said_from None words) (at (holding rows p) w false) words

abbrev Awaiting : List Word → Type 0
Awaiting words = (said : List Said) (rows : List Row) (o : Numbered) → Tells rows said
    → Shows said (said_from (Some o) words) (at (holding rows (awaiting o)) (option (name_of o)) false) words

abbrev Both : List Word → Type 0
Both words = Calmly words × Awaiting words

-- by the kind of the first word
say : (before : List Said) (o : Option Numbered) (word : Word) (rest : List Word) (k : Kind) (w : Walk) → kind word ≡ k
    → Shows before (said_by o k word rest (λ next. said_from next rest)) w (word ∷ rest)
    → Shows before (said_from o (word ∷ rest)) w (word ∷ rest)
say before o word rest k w e h = subst (λ t. Shows before (said_by o t word rest (λ next. said_from next rest)) w (word ∷ rest)) (sym e) h

abbrev Step : Word → List Word → Type 0
Step word rest = Both rest → Both (word ∷ rest)

-- ---- a word that is no option

plain_step : (word : Word) (rest : List Word) → kind word ≡ plain → IsNoFlag word → Step word rest
plain_step word rest k f ih = (
  λ said rows p w c r.
      let now : List Row = (settled rules (holding rows p)).rows in
      say said None word rest plain (at (holding rows p) w false) k
      (passes said (put (free word) (said_from None rest)) (at (holding rows p) w false) (at (holding now (free_pending word)) positional false) word rest
      (calm_turn w c word rows p f ∙ r.settles) (calm_to w c word rows p f)
      (one_more said (free word) (said_from None rest) _ _
      (ih.0 (said ++ free word ∷ []) now (free_pending word) positional tt (ready_free said now word r.tells)))),
  λ said rows o t.
      say said (Some o) word rest plain (at (holding rows (awaiting o)) (option (name_of o)) false) k
      (passes said (put (number o word) (said_from None rest)) (at (holding rows (awaiting o)) (option (name_of o)) false)
      (at (holding rows (Some (name_of o, word ∷ []))) idle false) word rest
      (wait_turn o word rows f) (wait_to o word rows f)
      (one_more said (number o word) (said_from None rest) _ _
      (ih.0 (said ++ number o word ∷ []) rows (Some (name_of o, word ∷ [])) idle tt (ready_number said rows o word t)))),
)

no_flag : IsNoFlag []
no_flag = record { not_end = refl; not_long = refl; not_short = refl }

and_none : (b : Bool) → (b && false) ≡ false
and_none true = refl
and_none false = refl

one_byte : (a : ℕ) → IsNoFlag (a ∷ [])
one_byte a = record { not_end = and_none (a == 45); not_long = long (a == 45); not_short = short (a == 45) }
  where
    long : (b : Bool) → option_and_then long_of_rest (option_and_then (strip_byte 45) (cond b (Some []) None)) ≡ None
    long true = refl
    long false = refl

    short : (b : Bool) → option_and_then short_of_rest (cond b (Some []) None) ≡ None
    short true = refl
    short false = refl

no_hyphen : (a b : ℕ) (bs : List ℕ) → (a == 45) ≡ false → IsNoFlag (a ∷ b ∷ bs)
no_hyphen a b bs e = record {
  not_end = ap (λ t. t && bytes_eq (b ∷ bs) (45 ∷ [])) e;
  not_long = ap (λ t. option_and_then long_of_rest (option_and_then (strip_byte 45) (cond t (Some (b ∷ bs)) None))) e;
  not_short = ap (λ t. option_and_then short_of_rest (cond t (Some (b ∷ bs)) None)) e;
}

-- ---- `--`

end_step : (rest : List Word) → Step (45 ∷ 45 ∷ []) rest
unfolding walked
end_step rest ih = (
  λ said rows p w c r. trailing_from w c said rows p r,
  λ said rows o t.
      passes said None (at (holding rows (awaiting o)) (option (name_of o)) false) (at (holding rows (awaiting o)) (option (name_of o)) true)
      (45 ∷ 45 ∷ []) rest refl refl (trail_fails rest said rows o (option (name_of o))),
)
  where
    trailing_from : (w : Waiting) → Calm w → (said : List Said) (rows : List Row) (p : Option (Text × List Text)) → Ready said rows p
        → Shows said (said_from None ((45 ∷ 45 ∷ []) ∷ rest)) (at (holding rows p) w false) ((45 ∷ 45 ∷ []) ∷ rest)
    trailing_from idle c said rows p r =
        passes said (said_from None ((45 ∷ 45 ∷ []) ∷ rest)) (at (holding rows p) idle false) (at (holding rows p) idle true) (45 ∷ 45 ∷ []) rest refl refl
        (trail_agrees rest said rows p idle r)
    trailing_from (option id) c said rows p r = absurd c
    trailing_from positional c said rows p r =
        passes said (said_from None ((45 ∷ 45 ∷ []) ∷ rest)) (at (holding rows p) positional false) (at (holding rows p) positional true) (45 ∷ 45 ∷ []) rest
        refl refl (trail_agrees rest said rows p positional r)

-- ---- a word with one hyphen

short_step : (b : ℕ) (bs : List ℕ) (rest : List Word) → IsShort b bs → Step (45 ∷ b ∷ bs) rest
short_step b bs rest s ih =
    let word : Word = 45 ∷ b ∷ bs in
    let k : kind word ≡ unknown = ap (λ t. cond t (long_kind bs) unknown) s.apart in (
      λ said rows p w c r.
          say said None word rest unknown (at (holding rows p) w false) k
          (fails said (at (holding rows p) w false) word rest (short_refused w b bs rows p s)),
      λ said rows o t.
          say said (Some o) word rest unknown (at (holding rows (awaiting o)) (option (name_of o)) false) k
          (fails said (at (holding rows (awaiting o)) (option (name_of o)) false) word rest (short_refused (option (name_of o)) b bs rows (awaiting o) s)),
    )

-- ---- a word with two hyphens

abbrev AnArgument : Word → Type 0
AnArgument rest = Which (named (before_equals rest)) (bytes_eq (codes "check") (before_equals rest)) (arg_by_long rules (before_equals rest))

valued_kind : (b : ℕ) (bs : List ℕ) → has_equals (b ∷ bs) ≡ true → kind (45 ∷ 45 ∷ b ∷ bs) ≡ with_value (b ∷ bs)
valued_kind b bs e = ap (λ t. cond t (with_value (b ∷ bs)) (without_value (b ∷ bs))) e

bare_kind : (b : ℕ) (bs : List ℕ) → has_equals (b ∷ bs) ≡ false → kind (45 ∷ 45 ∷ b ∷ bs) ≡ without_value (b ∷ bs)
bare_kind b bs e = ap (λ t. cond t (with_value (b ∷ bs)) (without_value (b ∷ bs))) e

found_valued : (b : ℕ) (bs : List ℕ) (found : Option Rule) → has_equals (b ∷ bs) ≡ true → arg_by_long rules (before_equals (b ∷ bs)) ≡ found
    → IsLong (b ∷ bs) found (Some (after_equals (b ∷ bs)))
found_valued b bs found e is = record { argument = is; value = ap (λ t. cond t (Some (after_equals (b ∷ bs))) None) e }

found_bare : (b : ℕ) (bs : List ℕ) (found : Option Rule) → has_equals (b ∷ bs) ≡ false → arg_by_long rules (before_equals (b ∷ bs)) ≡ found
    → IsLong (b ∷ bs) found None
found_bare b bs found e is = record { argument = is; value = ap (λ t. cond t (Some (after_equals (b ∷ bs))) None) e }

valued_step : (b : ℕ) (bs : List ℕ) (rest : List Word) → has_equals (b ∷ bs) ≡ true → AnArgument (b ∷ bs) → Step (45 ∷ 45 ∷ b ∷ bs) rest
valued_step b bs rest e (inl x) ih =
    let word : Word = 45 ∷ 45 ∷ b ∷ bs in let v : Word = after_equals (b ∷ bs) in let o : Numbered = x.0 in
    let l = found_valued b bs (Some (number_rule o)) e x.1.1 in
    let k : kind word ≡ has o v = valued_kind b bs e ∙ ap (λ n. option_map_or (λ m. has m v) n unknown) x.1.0 in (
      λ said rows p w c r.
          let h : Held = holding rows p in let now : List Row = (settled rules h).rows in
          say said None word rest (has o v) (at h w false) k
          (passes said (put (number o v) (said_from None rest)) (at h w false) (at (holding (rows_with (number o v) now) None) idle false) word rest
          (long_turn w b bs h (Some (number_rule o)) (Some v) l ∙ ap (λ t. or_else (or_else t []) []) r.settles)
          (long_to w b bs h (Some (number_rule o)) (Some v) l)
          (one_more said (number o v) (said_from None rest) _ _
          (ih.0 (said ++ number o v ∷ []) (rows_with (number o v) now) None idle tt (ready_used said now (number o v) r.tells)))),
      λ said rows q t.
          let h : Held = holding rows (awaiting q) in let s : Kinds = settle_fault rules false h in
          say said (Some q) word rest (has o v) (at h (option (name_of q)) false) k
          (fails said (at h (option (name_of q)) false) word rest
          (λ none. first_fails (or_else s []) [] (first_fails s [] (unsettled rows q))
          (sym (long_turn (option (name_of q)) b bs h (Some (number_rule o)) (Some v) l) ∙ none))),
    )
valued_step b bs rest e (inr (inl x)) ih =
    let word : Word = 45 ∷ 45 ∷ b ∷ bs in let v : Word = after_equals (b ∷ bs) in
    let l = found_valued b bs (Some check_built) e x.1.1 in
    let k : kind word ≡ unknown = valued_kind b bs e ∙ ap (λ n. option_map_or (λ m. has m v) n unknown) x.0 in (
      λ said rows p w c r.
          say said None word rest unknown (at (holding rows p) w false) k
          (fails said (at (holding rows p) w false) word rest (failed _ _ _ (long_turn w b bs (holding rows p) (Some check_built) (Some v) l))),
      λ said rows q t.
          say said (Some q) word rest unknown (at (holding rows (awaiting q)) (option (name_of q)) false) k
          (fails said (at (holding rows (awaiting q)) (option (name_of q)) false) word rest
          (failed _ _ _ (long_turn (option (name_of q)) b bs (holding rows (awaiting q)) (Some check_built) (Some v) l))),
    )
valued_step b bs rest e (inr (inr x)) ih =
    let word : Word = 45 ∷ 45 ∷ b ∷ bs in let v : Word = after_equals (b ∷ bs) in
    let l = found_valued b bs None e x.1.1 in
    let k : kind word ≡ unknown = valued_kind b bs e ∙ ap (λ n. option_map_or (λ m. has m v) n unknown) x.0 in (
      λ said rows p w c r.
          say said None word rest unknown (at (holding rows p) w false) k
          (fails said (at (holding rows p) w false) word rest (failed _ _ _ (long_turn w b bs (holding rows p) None (Some v) l))),
      λ said rows q t.
          say said (Some q) word rest unknown (at (holding rows (awaiting q)) (option (name_of q)) false) k
          (fails said (at (holding rows (awaiting q)) (option (name_of q)) false) word rest
          (failed _ _ _ (long_turn (option (name_of q)) b bs (holding rows (awaiting q)) None (Some v) l))),
    )

bare_step : (b : ℕ) (bs : List ℕ) (rest : List Word) → has_equals (b ∷ bs) ≡ false → AnArgument (b ∷ bs) → Step (45 ∷ 45 ∷ b ∷ bs) rest
bare_step b bs rest e (inl x) ih =
    let word : Word = 45 ∷ 45 ∷ b ∷ bs in let name : Word = before_equals (b ∷ bs) in let o : Numbered = x.0 in
    let l = found_bare b bs (Some (number_rule o)) e x.1.1 in
    let k : kind word ≡ awaits o =
    bare_kind b bs e ∙ ap (λ n. option_map_or awaits n (cond (bytes_eq (codes "check") name) checks unknown)) x.1.0 in (
      λ said rows p w c r.
          let h : Held = holding rows p in let now : List Row = (settled rules h).rows in
          say said None word rest (awaits o) (at h w false) k
          (passes said (said_from (Some o) rest) (at h w false) (at (holding now (awaiting o)) (option (name_of o)) false) word rest
          (long_turn w b bs h (Some (number_rule o)) None l ∙ ap (λ t. or_else t []) r.settles)
          (long_to w b bs h (Some (number_rule o)) None l)
          (ih.1 said now o r.tells)),
      λ said rows q t.
          let h : Held = holding rows (awaiting q) in let s : Kinds = settle_fault rules false h in
          say said (Some q) word rest (awaits o) (at h (option (name_of q)) false) k
          (fails said (at h (option (name_of q)) false) word rest
          (λ none. first_fails s [] (unsettled rows q)
          (sym (long_turn (option (name_of q)) b bs h (Some (number_rule o)) None l) ∙ none))),
    )
bare_step b bs rest e (inr (inl x)) ih =
    let word : Word = 45 ∷ 45 ∷ b ∷ bs in let name : Word = before_equals (b ∷ bs) in
    let l = found_bare b bs (Some check_built) e x.1.1 in
    let k : kind word ≡ checks =
    bare_kind b bs e ∙ ap (λ n. option_map_or awaits n (cond (bytes_eq (codes "check") name) checks unknown)) x.0
    ∙ ap (λ t. cond t checks unknown) x.1.0 in (
      λ said rows p w c r.
          let h : Held = holding rows p in let now : List Row = (settled rules h).rows in
          say said None word rest checks (at h w false) k
          (passes said (put check (said_from None rest)) (at h w false) (at (holding (rows_with check now) None) idle false) word rest
          (long_turn w b bs h (Some check_built) None l ∙ ap (λ t. or_else (or_else t []) []) r.settles)
          (long_to w b bs h (Some check_built) None l)
          (one_more said check (said_from None rest) _ _
          (ih.0 (said ++ check ∷ []) (rows_with check now) None idle tt (ready_used said now check r.tells)))),
      λ said rows q t.
          let h : Held = holding rows (awaiting q) in let s : Kinds = settle_fault rules false h in
          say said (Some q) word rest checks (at h (option (name_of q)) false) k
          (fails said (at h (option (name_of q)) false) word rest
          (λ none. first_fails (or_else s []) [] (first_fails s [] (unsettled rows q))
          (sym (long_turn (option (name_of q)) b bs h (Some check_built) None l) ∙ none))),
    )
bare_step b bs rest e (inr (inr x)) ih =
    let word : Word = 45 ∷ 45 ∷ b ∷ bs in let name : Word = before_equals (b ∷ bs) in
    let l = found_bare b bs None e x.1.1 in
    let k : kind word ≡ unknown =
    bare_kind b bs e ∙ ap (λ n. option_map_or awaits n (cond (bytes_eq (codes "check") name) checks unknown)) x.0
    ∙ ap (λ t. cond t checks unknown) x.1.0 in (
      λ said rows p w c r.
          say said None word rest unknown (at (holding rows p) w false) k
          (fails said (at (holding rows p) w false) word rest (failed _ _ _ (long_turn w b bs (holding rows p) None None l))),
      λ said rows q t.
          say said (Some q) word rest unknown (at (holding rows (awaiting q)) (option (name_of q)) false) k
          (fails said (at (holding rows (awaiting q)) (option (name_of q)) false) word rest
          (failed _ _ _ (long_turn (option (name_of q)) b bs (holding rows (awaiting q)) None None l))),
    )

long_step : (b : ℕ) (bs : List ℕ) (rest : List Word) → Step (45 ∷ 45 ∷ b ∷ bs) rest
long_step b bs rest = elim (both_ways (has_equals (b ∷ bs))) [
  | inl e ↦ valued_step b bs rest e (which (before_equals (b ∷ bs)))
  | inr e ↦ bare_step b bs rest e (which (before_equals (b ∷ bs)))
]

-- ---- all words

hyphens_step : (bs : List ℕ) (rest : List Word) → Step (45 ∷ 45 ∷ bs) rest
hyphens_step [] rest = end_step rest
hyphens_step (b ∷ bs) rest = long_step b bs rest

hyphen_step : (b : ℕ) (bs : List ℕ) (rest : List Word) → IsUtf8 (45 ∷ b ∷ bs) → Step (45 ∷ b ∷ bs) rest
hyphen_step b bs rest u = elim (both_ways (b == 45)) [
  | inl e ↦ subst (λ x. Step (45 ∷ x ∷ bs) rest) (sym (eqb-true b 45 e)) (hyphens_step bs rest)
  | inr e ↦ short_step b bs rest (record { apart = e; text = u })
]

word_step : (word : Word) (rest : List Word) → IsUtf8 word → Step word rest
word_step [] rest u = plain_step [] rest refl no_flag
word_step (a ∷ []) rest u = plain_step (a ∷ []) rest refl (one_byte a)
word_step (a ∷ b ∷ bs) rest u = elim (both_ways (a == 45)) [
  | inl e ↦
      let is : a ≡ 45 = eqb-true a 45 e in
      subst (λ x. Step (x ∷ b ∷ bs) rest) (sym is) (hyphen_step b bs rest (subst (λ x. IsUtf8 (x ∷ b ∷ bs)) is u))
  | inr e ↦ plain_step (a ∷ b ∷ bs) rest (ap (λ t. cond t (cond (b == 45) (long_kind bs) unknown) plain) e) (no_hyphen a b bs e)
]

-- each word is text
abbrev pub AreTexts : List Word → Type 0
AreTexts [] = Unit {0}
AreTexts (word ∷ words) = IsUtf8 word × AreTexts words

both_agree : (words : List Word) → AreTexts words → Both words
both_agree [] u = (
  λ said rows p w c r. at_end said rows p w false r,
  λ said rows o t. inr (λ e. unsettled rows o (sym (ended (holding rows (awaiting o)) (option (name_of o)) false) ∙ e), refl),
)
both_agree (word ∷ words) u = word_step word words u.0 (both_agree words u.1)

entered_none : (stop : Option (Text × List Text)) → entered (built command_line) stop ≡ None
entered_none None = refl
entered_none (Some x) = refl

no_fault_below : (stop : Option (Text × List Text)) → entered_fault (built command_line) stop ≡ []
no_fault_below None = refl
no_fault_below (Some x) = refl

-- clap's faults and finds at the command line, and what its words say
pub reading : (words : List Word) → AreTexts words → Agrees [] (said_from None words) (fault_of command_line words) (rows_after rules [] words)
reading words u =
    let stop = (walk rules [] nothing_held words).stopped in
    let same : fault_of command_line words ≡ end_fault (at (holding [] None) idle false) words =
    ap₂ (λ o k. level_fault shape [] nothing_held words (is_some o) k) (entered_none stop) (no_fault_below stop) in
    subst (λ f. Agrees [] (said_from None words) f (rows_after rules [] words)) (sym same)
    ((both_agree words u).0 [] [] None idle tt (record { settles = refl; tells = λ id. refl }))

-- ---- what the reading answers

pub are_texts : {Z : Type 0} (words : List (String Z)) → AreTexts (map (λ word. string_bytes word) words)
are_texts [] = tt
are_texts (word ∷ words) = (IsUtf8-string_bytes word, are_texts words)

pub is_free_line : is_simple_and_free command_line ≡ true
is_free_line = refl

pub is_simple_line : is_simple command_line ≡ true
is_simple_line = refl

pub finds_ok : (words : List Word) → AreTexts words → (m : ArgMatches) → fault_of command_line words ≡ []
    → rows_of (found_of m) ≡ rows_after rules [] words → Finds words (Ok m)
finds_ok words u m none rows = elim (reading words u) [
  | inl x ↦ (x.1.0, (x.1.1.0, subst (λ r. Tells r x.1.0) (sym rows) x.1.1.1))
  | inr x ↦ absurd (x.0 none)
]

pub finds_err : (words : List Word) → AreTexts words → (e : Error) (f : WordsFault) → HasKind (fault_of command_line words) e
    → (f ≡ Usage → kind_of e ≢ OutOfMemory) → Finds words (Err f)
finds_err words u e Memory h is = tt
finds_err words u e Usage h is = elim h [
  | inl memory ↦ absurd (is refl memory)
  | inr among ↦ elim (reading words u) [
    | inl x ↦ absurd (subst (IsAmong (kind_of e)) x.0 among)
    | inr x ↦ x.1
  ]
]
