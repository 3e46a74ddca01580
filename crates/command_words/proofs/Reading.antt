-- What clap finds for the command line, and where it refuses, against what the words say.
use Rattle.std.proofs.Common.{◌≡◌, ◌∙◌, ◌⊎◌, inl, inr, ◌++◌, ◌&&◌, ◌||◌, ℕ, Bool, true, false, cond, refl, sym, ap, ap₂, subst, arith, List, [], ◌∷◌, map, length, append-nil, append_assoc, codes, ◌==◌, encode_utf8_all, IsUtf8}
use Rattle.std.specs.Prelude.{Option, Some, None, option_and_then, slice_get}
use Rattle.std.specs.List.{fold}
use Rattle.std.specs.Option.{option_map_or}
use Rattle.std.specs.Str.{bytes_eq, chars}
use Rattle.std.proofs.lemmas.Str.{chars-encodes, encode_ascii}
use Rattle.clap.specs.Faults.{bundle_fault, bundle_step_fault, check_fault, defaults_fault, flag_word_fault, flags_fault, long_fault, settle_fault, step_fault, turn_fault, walk_fault, word_fault}
use Rattle.clap.specs.Kinds.{Kinds, or_else}
use Rattle.clap.specs.Lexer.{long_of, long_of_rest, name_and_value, short_of}
use Rattle.clap.specs.Simple.{Shape, built, filled, with_index}
use Rattle.clap.specs.Walk.{Held, Row, Rule, Step, Text, Waiting, Walk, idle, option, positional, after_flag, after_step, arg_by_id, arg_by_long, default_rows, finished, has_row, is_pending, long_met, long_or_other, option_word, plain_word, pushed, reading_by, settled, short_or_plain, trailing, walked, with_default, with_values, word_met}
use Rattle.clap.specs.declared.error.kind.ErrorKind.{ErrorKind}
use Rattle.clap.specs.declared.error.kind.ErrorKind.TheVariants.{UnknownArgument}
use Rattle.clap.specs.declared.parser.matches.ValueSource.TheVariants.{CommandLine}
use Rattle.command_words.specs.Said.{Numbered, fuel, lexeme, instances, sample, Said, free, check, number, Word, name_of, named, put}
use Rattle.command_words.specs.Finding.{Tells, check_rule, command_line, option_rule, operands_rule}
use Rattle.command_words.proofs.Found.{told_more}

-- ---- the command as it is built

abbrev pub shape : Shape
shape = (built command_line).top

abbrev pub rules : List Rule
rules = shape.rules

abbrev pub number_rule : Numbered → Rule
number_rule o = with_index 1 (filled (option_rule (name_of o)))

abbrev pub check_built : Rule
check_built = with_index 1 (filled check_rule)

abbrev pub operands_built : Rule
operands_built = with_index 1 (filled operands_rule)

pub rule_at : (o : Numbered) → arg_by_id rules (name_of o) ≡ Some (number_rule o)
rule_at fuel = refl
rule_at lexeme = refl
rule_at instances = refl
rule_at sample = refl

-- ---- what follows the words

abbrev pub run : Walk → List Text → Walk
run w words = fold (walked rules []) w words

abbrev pub after_words : Held → Kinds
after_words h =
    or_else (settle_fault rules false h)
    (or_else (defaults_fault (settled rules h).rows rules) (check_fault shape (finished rules h) false))

abbrev pub end_fault : Walk → List Text → Kinds
end_fault w words = or_else (walk_fault shape [] w words) (after_words (run w words).held)

-- no argument has a default
abbrev pub NoDefaults : List Rule → Type 0
NoDefaults [] = Unit {0}
NoDefaults (a ∷ rest) = (a.defaults ≡ []) × NoDefaults rest

pub none_fails : (b : Bool) (values : List Text) (k : Kinds) → values ≡ [] → cond (b || (length values == 0)) [] k ≡ []
none_fails true values k e = refl
none_fails false values k e = ap (λ v. cond (length v == 0) [] k) e

pub defaults_pass : (xs : List Rule) (rows : List Row) → NoDefaults xs → defaults_fault rows xs ≡ []
unfolding defaults_fault
defaults_pass [] rows h = refl
defaults_pass (a ∷ rest) rows h =
    ap₂ or_else (none_fails (has_row a.id rows) a.defaults _ h.0) (defaults_pass rest (with_default rows a) h.1)

pub kept : (b : Bool) (x y : List Row) → y ≡ x → cond b x y ≡ x
kept true x y e = refl
kept false x y e = e

pub defaults_kept : (xs : List Rule) (rows : List Row) → NoDefaults xs → fold with_default rows xs ≡ rows
defaults_kept [] rows h = refl
defaults_kept (a ∷ rest) rows h =
    ap (λ r. fold with_default r rest) (kept (has_row a.id rows) rows _ (ap (λ d. default_rows a.id (reading_by a) d rows) h.0))
    ∙ defaults_kept rest rows h.1

pub no_defaults : NoDefaults rules
no_defaults = (refl, (refl, (refl, (refl, (refl, (refl, tt))))))

pub or_else_nil : (k : Kinds) → or_else k [] ≡ k
or_else_nil [] = refl
or_else_nil (x ∷ xs) = refl

pub after_is : (h : Held) → after_words h ≡ settle_fault rules false h
after_is h =
    ap (λ d. or_else (settle_fault rules false h) (or_else d (check_fault shape (finished rules h) false)))
    (defaults_pass rules (settled rules h).rows no_defaults)
    ∙ or_else_nil (settle_fault rules false h)

pub finished_is : (h : Held) → finished rules h ≡ (settled rules h).rows
finished_is h = defaults_kept rules (settled rules h).rows no_defaults

-- ---- what is shown

-- the words are read as what is said, and what is found tells it; or both refuse
abbrev pub Agrees : List Said → Option (List Said) → Kinds → List Row → Type 0
Agrees before more faults rows =
    ((faults ≡ []) × ((said : List Said) × ((more ≡ Some said) × Tells rows (before ++ said)))) ⊎ ((faults ≡ [] → ⊥) × (more ≡ None))

pub one_more : (before : List Said) (thing : Said) (more : Option (List Said)) (faults : Kinds) (rows : List Row)
    → Agrees (before ++ thing ∷ []) more faults rows → Agrees before (put thing more) faults rows
one_more before thing more faults rows h = elim h [
  | inl x ↦ inl (x.0, (thing ∷ x.1.0, (ap (put thing) x.1.1.0, subst (Tells rows) (append_assoc before (thing ∷ []) x.1.0) x.1.1.1)))
  | inr x ↦ inr (x.0, ap (put thing) x.1)
]

abbrev pub Shows : List Said → Option (List Said) → Walk → List Text → Type 0
Shows before more w words = Agrees before more (end_fault w words) (finished rules (run w words).held)

-- a turn that passes
pub passes : (before : List Said) (more : Option (List Said)) (w after : Walk) (word : Text) (rest : List Text)
    → turn_fault shape [] w word ≡ [] → walked rules [] w word ≡ after → Shows before more after rest → Shows before more w (word ∷ rest)
unfolding walk_fault
passes before more w after word rest turn to h =
    subst (λ t. Agrees before more (or_else (or_else t (walk_fault shape [] (walked rules [] w word) rest)) (after_words (run (walked rules [] w word) rest).held))
    (finished rules (run (walked rules [] w word) rest).held)) (sym turn)
    (subst (λ v. Shows before more v rest) (sym to) h)

pub failed : (x : ErrorKind) (xs : Kinds) (k : Kinds) → k ≡ x ∷ xs → k ≡ [] → ⊥
failed x xs k is none = no_head x xs (sym is ∙ none)
  where
    no_head : (x : ErrorKind) (xs : Kinds) → x ∷ xs ≡ [] → ⊥
    no_head x xs e = absurd (omega (arith, ap length e))

pub first_fails : (a b : Kinds) → (a ≡ [] → ⊥) → or_else a b ≡ [] → ⊥
first_fails [] b h e = h refl
first_fails (x ∷ xs) b h e = h e

-- a turn that fails
pub fails : (before : List Said) (w : Walk) (word : Text) (rest : List Text) → (turn_fault shape [] w word ≡ [] → ⊥) → Shows before None w (word ∷ rest)
unfolding walk_fault
fails before w word rest turn =
    let later : Walk = walked rules [] w word in
    inr (
      first_fails (or_else (turn_fault shape [] w word) (walk_fault shape [] later rest)) (after_words (run later rest).held)
          (first_fails (turn_fault shape [] w word) (walk_fault shape [] later rest) turn),
      refl,
    )

-- ---- states between words

abbrev pub holding : List Row → Option (Text × List Text) → Held
holding rows pending = record { rows = rows; pending = pending; skip = 0 }

abbrev pub at : Held → Waiting → Bool → Walk
at h waiting is_trailing = record { held = h; waiting = waiting; position = 1; is_trailing = is_trailing; stopped = None }

-- nothing is refused so far, and what is found tells what was said
pub record Ready (said : List Said) (rows : List Row) (pending : Option (Text × List Text)) : Type 0 where
  pub settles : settle_fault rules false (holding rows pending) ≡ []
  pub tells : Tells (settled rules (holding rows pending)).rows said

-- no option awaits its value
abbrev pub Calm : Waiting → Type 0
Calm idle = Unit {0}
Calm (option id) = ⊥
Calm positional = Unit {0}

-- the rows after one more use
abbrev pub rows_with : Said → List Row → List Row
rows_with (free word) rows = with_values (codes "operands") (reading_by operands_built) CommandLine (word ∷ []) rows
rows_with check rows = with_values (codes "check") (reading_by check_built) CommandLine (codes "yes" ∷ []) rows
rows_with (number o word) rows = with_values (name_of o) (reading_by (number_rule o)) CommandLine (word ∷ []) rows

pub told : (rows : List Row) (said : List Said) (thing : Said) → Tells rows said → Tells (rows_with thing rows) (said ++ thing ∷ [])
told rows said (free word) t = told_more rows said (free word) (reading_by operands_built) t
told rows said check t = told_more rows said check (reading_by check_built) t
told rows said (number o word) t = told_more rows said (number o word) (reading_by (number_rule o)) t

-- after a use nothing is pending
pub ready_used : (said : List Said) (rows : List Row) (thing : Said) → Tells rows said → Ready (said ++ thing ∷ []) (rows_with thing rows) None
ready_used said rows thing t = record { settles = refl; tells = told rows said thing t }

-- a word that is no option is pending
pub ready_free : (said : List Said) (rows : List Row) (word : Word) → Tells rows said → Ready (said ++ free word ∷ []) rows (Some (codes "operands", word ∷ []))
ready_free said rows word t = record { settles = refl; tells = told rows said (free word) t }

-- an option's value is pending
pub ready_number : (said : List Said) (rows : List Row) (o : Numbered) (word : Word) → Tells rows said
    → Ready (said ++ number o word ∷ []) rows (Some (name_of o, word ∷ []))
ready_number said rows fuel word t = record { settles = refl; tells = told rows said (number fuel word) t }
ready_number said rows lexeme word t = record { settles = refl; tells = told rows said (number lexeme word) t }
ready_number said rows instances word t = record { settles = refl; tells = told rows said (number instances word) t }
ready_number said rows sample word t = record { settles = refl; tells = told rows said (number sample word) t }

-- an option without its value can't be settled
pub unsettled : (rows : List Row) (o : Numbered) → settle_fault rules false (holding rows (Some (name_of o, []))) ≡ [] → ⊥
unsettled rows fuel = failed _ _ _ refl
unsettled rows lexeme = failed _ _ _ refl
unsettled rows instances = failed _ _ _ refl
unsettled rows sample = failed _ _ _ refl

-- ---- after `--`

pub and_false : (b : Bool) (x y : Kinds) → cond (b && false) x y ≡ y
and_false true x y = refl
and_false false x y = refl

pub settled_either : (b : Bool) (x y : Held) → cond (b && false) x y ≡ y
settled_either true x y = refl
settled_either false x y = refl

pub ended : (h : Held) (waiting : Waiting) (is_trailing : Bool) → end_fault (at h waiting is_trailing) [] ≡ settle_fault rules false h
unfolding walk_fault
ended h waiting is_trailing = after_is h

-- the walk may end where nothing is refused
pub at_end : (said : List Said) (rows : List Row) (p : Option (Text × List Text)) (w : Waiting) (t : Bool) → Ready said rows p
    → Shows said (Some []) (at (holding rows p) w t) []
at_end said rows p w t r =
    inl (
      ended (holding rows p) w t ∙ r.settles,
      (
        [],
        (
          refl,
          subst (λ l. Tells l (said ++ [])) (sym (finished_is (holding rows p)))
              (subst (Tells (settled rules (holding rows p)).rows) (sym (append-nil said)) r.tells),
        ),
      ),
    )

abbrev pub free_pending : Text → Option (Text × List Text)
free_pending word = Some (codes "operands", word ∷ [])

pub trail_turn : (rows : List Row) (p : Option (Text × List Text)) (w : Waiting) (word : Text)
    → turn_fault shape [] (at (holding rows p) w true) word ≡ settle_fault rules false (holding rows p)
trail_turn rows p w word = and_false (is_pending operands_built p) [] (settle_fault rules false (holding rows p))

pub trail_to : (rows : List Row) (p : Option (Text × List Text)) (w : Waiting) (word : Text)
    → walked rules [] (at (holding rows p) w true) word ≡ at (holding (settled rules (holding rows p)).rows (free_pending word)) positional true
unfolding walked
trail_to rows p w word =
    ap (λ h. at (pushed (codes "operands") word h) positional true)
    (settled_either (is_pending operands_built p) (holding rows p) (settled rules (holding rows p)))

pub trail_agrees : (words : List Text) (said : List Said) (rows : List Row) (p : Option (Text × List Text)) (w : Waiting) → Ready said rows p
    → Shows said (Some (map free words)) (at (holding rows p) w true) words
trail_agrees [] said rows p w r = at_end said rows p w true r
trail_agrees (word ∷ rest) said rows p w r =
    let now : List Row = (settled rules (holding rows p)).rows in
    passes said (Some (map free (word ∷ rest))) (at (holding rows p) w true) (at (holding now (free_pending word)) positional true) word rest
    (trail_turn rows p w word ∙ r.settles) (trail_to rows p w word)
    (one_more said (free word) (Some (map free rest)) _ _
    (trail_agrees rest (said ++ free word ∷ []) now (free_pending word) positional (ready_free said now word r.tells)))

abbrev pub awaiting : Numbered → Option (Text × List Text)
awaiting o = Some (name_of o, [])

pub trail_fails : (words : List Text) (said : List Said) (rows : List Row) (o : Numbered) (w : Waiting)
    → Shows said None (at (holding rows (awaiting o)) w true) words
trail_fails [] said rows o w = inr (λ e. unsettled rows o (sym (ended (holding rows (awaiting o)) w true) ∙ e), refl)
trail_fails (word ∷ rest) said rows o w =
    fails said (at (holding rows (awaiting o)) w true) word rest (λ e. unsettled rows o (sym (trail_turn rows (awaiting o) w word) ∙ e))

-- ---- a word that is no option

pub record IsNoFlag (word : Word) : Type 0 where
  pub not_end : bytes_eq word (45 ∷ 45 ∷ []) ≡ false
  pub not_long : long_of word ≡ None
  pub not_short : short_of word ≡ None

pub other_plain : (w : Waiting) (word : Text) (h : Held) → IsNoFlag word
    → cond (bytes_eq word (45 ∷ 45 ∷ [])) (h, trailing 1) (long_or_other rules w word (long_of word) h) ≡ plain_word rules w word h
other_plain w word h f =
    ap (λ b. cond b (h, trailing 1) (long_or_other rules w word (long_of word) h)) f.not_end
    ∙ ap (λ l. long_or_other rules w word l h) f.not_long
    ∙ ap (λ s. short_or_plain rules w word s h) f.not_short

pub met_plain : (w : Waiting) (word : Text) (h : Held) → IsNoFlag word → word_met rules [] false w 1 word h ≡ plain_word rules w word h
met_plain idle word h f = other_plain idle word h f
met_plain (option id) word h f = other_plain (option id) word h f
met_plain positional word h f = other_plain positional word h f

pub other_passes : (word : Text) (h : Held) → IsNoFlag word
    → cond (bytes_eq word (45 ∷ 45 ∷ [])) [] (flag_word_fault rules false (long_of word) word h) ≡ []
other_passes word h f =
    ap (λ b. cond b [] (flag_word_fault rules false (long_of word) word h)) f.not_end
    ∙ ap (λ l. flag_word_fault rules false l word h) f.not_long
    ∙ ap (λ s. option_map_or (λ flags. bundle_fault rules false flags h) s []) f.not_short

pub fault_plain : (w : Waiting) (word : Text) (h : Held) → IsNoFlag word → word_fault shape [] false w word h ≡ []
fault_plain idle word h f = other_passes word h f
fault_plain (option id) word h f = other_passes word h f
fault_plain positional word h f = other_passes word h f

-- the faults of a turn before `--`, by what the word comes to
pub turn_by : (w : Waiting) (word : Text) (h : Held) (faults : Kinds) (met : Held × Step) → word_fault shape [] false w word h ≡ faults
    → word_met rules [] false w 1 word h ≡ met → turn_fault shape [] (at h w false) word ≡ or_else faults (step_fault shape 1 met.0 met.1)
turn_by w word h faults met e1 e2 = ap₂ (λ k m. or_else k (step_fault shape 1 m.0 m.1)) e1 e2

pub to_by : (w : Waiting) (word : Text) (h : Held) (met : Held × Step) → word_met rules [] false w 1 word h ≡ met
    → walked rules [] (at h w false) word ≡ after_step rules word (at h w false) met.0 met.1
unfolding walked
to_by w word h met e = ap (λ m. after_step rules word (at h w false) m.0 m.1) e

pub calm_turn : (w : Waiting) → Calm w → (word : Text) (rows : List Row) (p : Option (Text × List Text)) → IsNoFlag word
    → turn_fault shape [] (at (holding rows p) w false) word ≡ settle_fault rules false (holding rows p)
calm_turn idle c word rows p f =
    turn_by idle word (holding rows p) _ _ (fault_plain idle word (holding rows p) f) (met_plain idle word (holding rows p) f)
    ∙ and_false (is_pending operands_built p) [] (settle_fault rules false (holding rows p))
calm_turn (option id) c word rows p f = absurd c
calm_turn positional c word rows p f =
    turn_by positional word (holding rows p) _ _ (fault_plain positional word (holding rows p) f) (met_plain positional word (holding rows p) f)
    ∙ and_false (is_pending operands_built p) [] (settle_fault rules false (holding rows p))

pub calm_to : (w : Waiting) → Calm w → (word : Text) (rows : List Row) (p : Option (Text × List Text)) → IsNoFlag word
    → walked rules [] (at (holding rows p) w false) word ≡ at (holding (settled rules (holding rows p)).rows (free_pending word)) positional false
calm_to idle c word rows p f =
    to_by idle word (holding rows p) _ (met_plain idle word (holding rows p) f)
    ∙ ap (λ h. at (pushed (codes "operands") word h) positional false)
    (settled_either (is_pending operands_built p) (holding rows p) (settled rules (holding rows p)))
calm_to (option id) c word rows p f = absurd c
calm_to positional c word rows p f =
    to_by positional word (holding rows p) _ (met_plain positional word (holding rows p) f)
    ∙ ap (λ h. at (pushed (codes "operands") word h) positional false)
    (settled_either (is_pending operands_built p) (holding rows p) (settled rules (holding rows p)))

pub wait_turn : (o : Numbered) (word : Text) (rows : List Row) → IsNoFlag word
    → turn_fault shape [] (at (holding rows (awaiting o)) (option (name_of o)) false) word ≡ []
wait_turn o word rows f =
    turn_by (option (name_of o)) word (holding rows (awaiting o)) _ _ (fault_plain (option (name_of o)) word (holding rows (awaiting o)) f)
    (met_plain (option (name_of o)) word (holding rows (awaiting o)) f)

pub pushed_to : (o : Numbered) (word : Text) (rows : List Row)
    → option_word (arg_by_id rules (name_of o)) (name_of o) word (holding rows (awaiting o)) ≡ (holding rows (Some (name_of o, word ∷ [])), idle)
pushed_to fuel word rows = refl
pushed_to lexeme word rows = refl
pushed_to instances word rows = refl
pushed_to sample word rows = refl

pub wait_to : (o : Numbered) (word : Text) (rows : List Row) → IsNoFlag word
    → walked rules [] (at (holding rows (awaiting o)) (option (name_of o)) false) word ≡ at (holding rows (Some (name_of o, word ∷ []))) idle false
wait_to o word rows f =
    to_by (option (name_of o)) word (holding rows (awaiting o)) _ (met_plain (option (name_of o)) word (holding rows (awaiting o)) f)
    ∙ ap (λ p. at p.0 p.1 false) (pushed_to o word rows)

-- ---- a word that begins with one hyphen

pub first_char : (b : ℕ) (rest : List ℕ) → IsUtf8 (45 ∷ b ∷ rest) → (x : ℕ) × (slice_get (chars (b ∷ rest)) 0 ≡ Some x)
unfolding chars
first_char b rest u = go (chars (b ∷ rest)) refl
  where
    one : encode_utf8_all (45 ∷ []) ≡ 45 ∷ []
    one = ap (λ l. l ++ []) (encode_ascii 45 (omega arith))

    go : (cs : List ℕ) → chars (b ∷ rest) ≡ cs → (x : ℕ) × (slice_get (chars (b ∷ rest)) 0 ≡ Some x)
    go (x ∷ xs) e = (x, ap (λ l. slice_get l 0) e)
    go [] e =
        let own : u.0 ≡ 45 ∷ chars (b ∷ rest) = sym (chars-encodes u.0 u.1.0) ∙ ap chars u.1.1 in
        let spelled : 45 ∷ b ∷ rest ≡ 45 ∷ [] = sym u.1.1 ∙ ap encode_utf8_all (own ∙ ap (λ l. 45 ∷ l) e) ∙ one in
        absurd (omega (arith, ap length spelled))

-- the word is one hyphen and then no other
pub record IsShort (b : ℕ) (rest : List ℕ) : Type 0 where
  pub apart : (b == 45) ≡ false
  pub text : IsUtf8 (45 ∷ b ∷ rest)

pub bundle_refused : (b : ℕ) (rest : List ℕ) (rows : List Row) (p : Option (Text × List Text)) → IsShort b rest
    → bundle_fault rules false (b ∷ rest) (holding rows p) ≡ UnknownArgument ∷ []
unfolding flags_fault
bundle_refused b rest rows p s =
    let f = first_char b rest s.text in
    ap (λ x. bundle_step_fault rules false x (b ∷ rest) 0 (holding rows p) (flags_fault rules false (length rest))) f.1

pub other_refused : (b : ℕ) (rest : List ℕ) (rows : List Row) (p : Option (Text × List Text)) → IsShort b rest
    → cond (bytes_eq (45 ∷ b ∷ rest) (45 ∷ 45 ∷ [])) [] (flag_word_fault rules false (long_of (45 ∷ b ∷ rest)) (45 ∷ b ∷ rest) (holding rows p))
    ≡ UnknownArgument ∷ []
other_refused b rest rows p s =
    let word : Word = 45 ∷ b ∷ rest in let h = holding rows p in
    ap (λ t. cond (t && bytes_eq rest []) [] (flag_word_fault rules false (long_of word) word h)) s.apart
    ∙ ap (λ t. flag_word_fault rules false (option_and_then long_of_rest (cond t (Some rest) None)) word h) s.apart
    ∙ ap (λ t. option_map_or (λ flags. bundle_fault rules false flags h) (cond t None (Some (b ∷ rest))) []) s.apart
    ∙ bundle_refused b rest rows p s

-- the first is empty where both are
pub first_nil : (a b : Kinds) → or_else a b ≡ [] → a ≡ []
first_nil [] b e = refl
first_nil (x ∷ xs) b e = e

pub turn_fails : (w : Waiting) (word : Text) (h : Held) (x : ErrorKind) (xs : Kinds) → word_fault shape [] false w word h ≡ x ∷ xs
    → turn_fault shape [] (at h w false) word ≡ [] → ⊥
turn_fails w word h x xs e t =
    failed x xs _ refl
    (first_nil (x ∷ xs) (step_fault shape 1 (word_met rules [] false w 1 word h).0 (word_met rules [] false w 1 word h).1)
    (sym (turn_by w word h (x ∷ xs) (word_met rules [] false w 1 word h) e refl) ∙ t))

pub short_refused : (w : Waiting) (b : ℕ) (rest : List ℕ) (rows : List Row) (p : Option (Text × List Text)) → IsShort b rest
    → turn_fault shape [] (at (holding rows p) w false) (45 ∷ b ∷ rest) ≡ [] → ⊥
short_refused idle b rest rows p s = turn_fails idle (45 ∷ b ∷ rest) (holding rows p) UnknownArgument [] (other_refused b rest rows p s)
short_refused (option id) b rest rows p s = turn_fails (option id) (45 ∷ b ∷ rest) (holding rows p) UnknownArgument [] (other_refused b rest rows p s)
short_refused positional b rest rows p s = turn_fails positional (45 ∷ b ∷ rest) (holding rows p) UnknownArgument [] (other_refused b rest rows p s)

-- ---- a word that begins with two hyphens

-- which argument has the name, on both sides
abbrev pub Which : Option Numbered → Bool → Option Rule → Type 0
Which n c found =
    ((o : Numbered) × ((n ≡ Some o) × (found ≡ Some (number_rule o))))
    ⊎ (((n ≡ None) × ((c ≡ true) × (found ≡ Some check_built))) ⊎ ((n ≡ None) × ((c ≡ false) × (found ≡ None))))

pub which : (name : Word) → Which (named name) (bytes_eq (codes "check") name) (arg_by_long rules name)
which name =
    go (bytes_eq (codes "fuel") name) (bytes_eq (codes "lexeme") name) (bytes_eq (codes "instances") name) (bytes_eq (codes "sample") name)
    (bytes_eq (codes "check") name)
  where
    go : (f l i s c : Bool)
        → Which (cond f (Some fuel) (cond l (Some lexeme) (cond i (Some instances) (cond s (Some sample) None)))) c
        (cond (f || false) (Some (number_rule fuel)) (cond (l || false) (Some (number_rule lexeme)) (cond (i || false) (Some (number_rule instances))
        (cond (s || false) (Some (number_rule sample)) (cond (c || false) (Some check_built) None)))))
    go true l i s c = inl (fuel, (refl, refl))
    go false true i s c = inl (lexeme, (refl, refl))
    go false false true s c = inl (instances, (refl, refl))
    go false false false true c = inl (sample, (refl, refl))
    go false false false false true = inr (inl (refl, (refl, refl)))
    go false false false false false = inr (inr (refl, (refl, refl)))

abbrev pub long_after : Waiting → Text → Option Rule → Option Text → Held → Held × Step
long_after w word found v h = after_flag rules w word (long_met rules found v h).0 (long_met rules found v h).1

-- a word behind two hyphens, by its argument and its value
pub record IsLong (rest : Word) (found : Option Rule) (v : Option Text) : Type 0 where
  pub argument : arg_by_long rules (name_and_value rest).0 ≡ found
  pub value : (name_and_value rest).1 ≡ v

pub long_turn : (w : Waiting) (b : ℕ) (bs : List ℕ) (h : Held) (found : Option Rule) (v : Option Text) → IsLong (b ∷ bs) found v
    → turn_fault shape [] (at h w false) (45 ∷ 45 ∷ b ∷ bs)
    ≡ or_else (long_fault rules false found v h) (step_fault shape 1 (long_after w (45 ∷ 45 ∷ b ∷ bs) found v h).0 (long_after w (45 ∷ 45 ∷ b ∷ bs) found v h).1)
long_turn idle b bs h found v e =
    let word : Word = 45 ∷ 45 ∷ b ∷ bs in
    ap₂ (λ a x. or_else (long_fault rules false a x h) (step_fault shape 1 (long_after idle word a x h).0 (long_after idle word a x h).1)) e.argument e.value
long_turn (option id) b bs h found v e =
    let word : Word = 45 ∷ 45 ∷ b ∷ bs in
    ap₂ (λ a x. or_else (long_fault rules false a x h) (step_fault shape 1 (long_after (option id) word a x h).0 (long_after (option id) word a x h).1))
    e.argument e.value
long_turn positional b bs h found v e =
    let word : Word = 45 ∷ 45 ∷ b ∷ bs in
    ap₂ (λ a x. or_else (long_fault rules false a x h) (step_fault shape 1 (long_after positional word a x h).0 (long_after positional word a x h).1))
    e.argument e.value

pub long_to : (w : Waiting) (b : ℕ) (bs : List ℕ) (h : Held) (found : Option Rule) (v : Option Text) → IsLong (b ∷ bs) found v
    → walked rules [] (at h w false) (45 ∷ 45 ∷ b ∷ bs)
    ≡ after_step rules (45 ∷ 45 ∷ b ∷ bs) (at h w false) (long_after w (45 ∷ 45 ∷ b ∷ bs) found v h).0 (long_after w (45 ∷ 45 ∷ b ∷ bs) found v h).1
long_to idle b bs h found v e =
    let word : Word = 45 ∷ 45 ∷ b ∷ bs in
    to_by idle word h _ (ap₂ (λ a x. long_after idle word a x h) e.argument e.value)
long_to (option id) b bs h found v e =
    let word : Word = 45 ∷ 45 ∷ b ∷ bs in
    to_by (option id) word h _ (ap₂ (λ a x. long_after (option id) word a x h) e.argument e.value)
long_to positional b bs h found v e =
    let word : Word = 45 ∷ 45 ∷ b ∷ bs in
    to_by positional word h _ (ap₂ (λ a x. long_after positional word a x h) e.argument e.value)
