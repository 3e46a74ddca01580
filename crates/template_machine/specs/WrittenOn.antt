-- An output is told one thing after another.
use Rattle.std.proofs.Common.{◌≡◌, ℕ, List, [], ◌∷◌, ◌++◌, Result, Ok, Err, None, refl, ap, sym, subst, ◌∙◌, append-nil, append_assoc}
use Rattle.std.specs.Prelude.{IfErr, IsErrAnd, MatchResult, OnErr, OnOk, encode_utf8_all, map}
use Rattle.stx_base.specs.declared.name.Attr.{Attr}
use Rattle.stx_base.specs.declared.part.Part.{Part}
use Rattle.result_writer.specs.Target as writing
use Rattle.result_writer.specs.Target.{IsCause, Left, PutsInTurn, Target, behind, left_by, next, settles}
use Rattle.result_writer.specs.declared.fault.WriteStop.{WriteStop}
use Rattle.template_machine.specs.Ending.{Note, Open, Put, Said}
use Rattle.template_machine.specs.Lists.{rest_of}
use Rattle.template_machine.specs.Putting.{attribute_part}
use Rattle.template_machine.specs.Sinks.{Takes, TakesInTurn, all_put, behind_all}
use Rattle.template_machine.specs.Written.{Wrote, lines_of, settled_by}
use Rattle.template_machine.specs.declared.output.Output.{Output}

behind_on : (t : Target) (m n : List Said) → behind_all t (m ++ n) ≡ behind_all (behind_all t m) n
behind_on t [] n = refl
behind_on t (Put p ∷ m) n = behind_on (behind t p) m n
behind_on t (Note text ∷ m) n = behind_on t m n
behind_on t (Open name ∷ m) n = behind_on t m n

pub settled_on : (t : Target) (m n : List Said) → settled_by t.left (m ++ n) ≡ settled_by t.left m ++ settled_by (behind_all t m).left n
settled_on t [] n = refl
settled_on t (Put p ∷ m) n =
    ap (λ l. settles t.left p ++ l) (settled_on (behind t p) m n)
    ∙ sym (append_assoc (settles t.left p) (settled_by (next t.left p) m) (settled_by (behind_all (behind t p) m).left n))
settled_on t (Note text ∷ m) n = settled_on t m n
settled_on t (Open name ∷ m) n = settled_on t m n

pub lines_on : (m n : List Said) → lines_of (m ++ n) ≡ lines_of m ++ lines_of n
lines_on [] n = refl
lines_on (Put p ∷ m) n = lines_on m n
lines_on (Note text ∷ m) n = ap (λ l. encode_utf8_all text ++ 10 ∷ l) (lines_on m n) ∙ sym (append_assoc (encode_utf8_all text) (10 ∷ lines_of m) (lines_of n))
lines_on (Open name ∷ m) n = lines_on m n

pub wrote_nothing : (a : Output) → Wrote a a []
wrote_nothing a = record { writer = refl; bytes = sym (append-nil a.bytes.items); notes = sym (append-nil a.notes.items) }

pub wrote_further : (a b c : Output) (m n : List Said) → Wrote a b m → Wrote b c n → Wrote a c (m ++ n)
wrote_further a b c m n x y = record {
  writer = y.writer ∙ ap (λ t. behind_all t n) x.writer ∙ sym (behind_on a.writer m n);
  bytes =
      y.bytes ∙ ap (λ l. l ++ settled_by b.writer.left n) x.bytes ∙ append_assoc a.bytes.items (settled_by a.writer.left m) (settled_by b.writer.left n)
      ∙ ap (λ l. a.bytes.items ++ l) (ap (λ (t : Target). settled_by a.writer.left m ++ settled_by t.left n) x.writer ∙ sym (settled_on a.writer m n));
  notes =
      y.notes ∙ ap (λ l. l ++ lines_of n) x.notes ∙ append_assoc a.notes.items (lines_of m) (lines_of n) ∙ ap (λ l. a.notes.items ++ l) (sym (lines_on m n));
}

pub wrote_leaves : (a b : Output) (m : List Said) → Wrote a b m → b.writer ≡ behind_all a.writer m
wrote_leaves a b m x = x.writer

-- a part that a writer takes, or refuses
pub wrote_part : {A : Type 0} (a b : Output) (p : Part) (r : Result A WriteStop) → OnOk r (writing.fault a.writer.limit a.writer.left p ≡ None)
    → IfErr r (IsCause (writing.fault a.writer.limit a.writer.left p)) → OnOk r (b.writer ≡ behind a.writer p) → OnErr r (b.writer ≡ a.writer)
    → OnOk r (b.bytes.items ≡ a.bytes.items ++ settles a.writer.left p) → OnErr r (b.bytes.items ≡ a.bytes.items) → b.notes.items ≡ a.notes.items
    → Takes (λ (o : Output). o.writer) Wrote p r a b
wrote_part a b p (Ok done) taken fault ok err written unwritten notes = record {
  taken = taken;
  refused = tt;
  said = record {
    writer = ok;
    bytes = written ∙ ap (λ l. a.bytes.items ++ l) (sym (append-nil (settles a.writer.left p)));
    notes = notes ∙ sym (append-nil a.notes.items);
  };
  unsaid = tt;
}
wrote_part a b p (Err stop) taken fault ok err written unwritten notes = record {
  taken = tt;
  refused = fault;
  said = tt;
  unsaid = record { writer = err; bytes = unwritten ∙ sym (append-nil a.bytes.items); notes = notes ∙ sym (append-nil a.notes.items) };
}

-- Attributes settle nothing, and leave the scope of the last start as it was.

abbrev first_or : Part → List Part → Part
first_or other [] = other
first_or other (p ∷ ps) = p

abbrev IsNone : List Part → Type 0
IsNone [] = Unit {0}
IsNone (p ∷ ps) = ⊥

attributes_behind : (t : Target) (attrs : List Attr) (taken rest : List Part) → map attribute_part attrs ≡ taken ++ rest
    → behind_all t (all_put taken) ≡ record t { left = left_by t.left taken }
attributes_behind t attrs [] rest e = refl
attributes_behind t [] (p ∷ ps) rest e = absurd (subst IsNone e tt)
attributes_behind t (a ∷ attrs) (p ∷ ps) rest e =
    subst (λ q. behind_all t (all_put (q ∷ ps)) ≡ record t { left = left_by t.left (q ∷ ps) }) (ap (first_or p) e)
    (attributes_behind (behind t (attribute_part a)) attrs ps rest (ap rest_of e))

attributes_settle : (l : Left) (attrs : List Attr) (taken rest : List Part) → map attribute_part attrs ≡ taken ++ rest → settled_by l (all_put taken) ≡ []
attributes_settle l attrs [] rest e = refl
attributes_settle l [] (p ∷ ps) rest e = absurd (subst IsNone e tt)
attributes_settle l (a ∷ attrs) (p ∷ ps) rest e =
    subst (λ q. settled_by l (all_put (q ∷ ps)) ≡ []) (ap (first_or p) e) (attributes_settle (next l (attribute_part a)) attrs ps rest (ap rest_of e))

no_lines : (ps : List Part) → lines_of (all_put ps) ≡ []
no_lines [] = refl
no_lines (p ∷ ps) = no_lines ps

-- attributes that a writer takes up to one that it refuses
pub wrote_in_turn : {A : Type 0} (a : Output) (w : Target) (attrs : List Attr) (r : Result A WriteStop) (b : Output) → b.writer ≡ w → b.bytes ≡ a.bytes → b.notes ≡ a.notes
    → PutsInTurn (map attribute_part attrs) r a.writer w → TakesInTurn (λ (o : Output). o.writer) Wrote (map attribute_part attrs) r a b
wrote_in_turn a w attrs r b writer bytes notes q = record {
  taken = q.taken;
  rest = q.rest;
  whole = q.whole;
  allowed = q.allowed;
  said = record {
    writer = writer ∙ q.left ∙ sym (attributes_behind a.writer attrs q.taken q.rest q.whole);
    bytes = ap (λ v. v.items) bytes ∙ sym (append-nil a.bytes.items) ∙ ap (λ l. a.bytes.items ++ l) (sym (attributes_settle a.writer.left attrs q.taken q.rest q.whole));
    notes = ap (λ v. v.items) notes ∙ sym (append-nil a.notes.items) ∙ ap (λ l. a.notes.items ++ l) (sym (no_lines q.taken));
  };
  all = q.all;
  refused = q.refused;
}

pub always_ok : {A E P : Type 0} (r : Result A E) → P → OnOk r P
always_ok (Ok done) h = h
always_ok (Err e) h = tt

pub always_err : {A E P : Type 0} (r : Result A E) → P → OnErr r P
always_err (Ok done) h = tt
always_err (Err e) h = h

-- the error of a `?`
pub fails_with : {A E : Type 0} (r : Result A E) (e : E) → IsErrAnd r (λ s. s ≡ e) → r ≡ Err e
fails_with (Ok a) e h = absurd h
fails_with (Err s) e h = ap Err h

-- what a result says where it is one, and where it isn't
pub match_ok : (A B P : Type 0) (Q : B → Type 0) (r : Result A B) → MatchResult r (λ done. P) Q → OnOk r P
match_ok A B P Q (Ok done) h = h
match_ok A B P Q (Err e) h = tt

pub match_err : (A B P : Type 0) (Q : A → Type 0) (X : B → Type 0) (r : Result A B) → MatchResult r Q (λ e. X e × P) → OnErr r P
match_err A B P Q X (Ok done) h = tt
match_err A B P Q X (Err e) h = h.1
