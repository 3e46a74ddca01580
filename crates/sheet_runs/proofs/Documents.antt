-- Which documents go on behind a piece.
use Rattle.std.proofs.Common.{◌≡◌, ℕ, ◌+◌, ◌≤◌, Bool, true, false, List, [], ◌∷◌, ◌++◌, length, map, drop, Option, Some, None, IsSome, inl, inr, refl, sym, ap, subst, ◌∙◌, arith, length-append}
use Rattle.std.specs.Prelude.{◌⊎◌, if◌then◌else◌}
use Rattle.std.proofs.lemmas.List.{reverse-append}
use Rattle.std.proofs.lemmas.Bool.{false≢true}
use Rattle.stx_base.specs.declared.limits.Limits.{Limits}
use Rattle.xml_tokens.specs.Reader.{fed}
use Rattle.fault_report.specs.declared.outcome.Outcome.TheVariants as ended
use Rattle.run_engine.specs.Run.{IsHungry, Main, MainIsHungry, Open, OtherIsHungry, Over, Run, Stage, Wants}
use Rattle.run_engine.specs.Run as spec
use Rattle.run_engine.specs.Taking.{AreEnded, AreReadOn, Takes, Took, ended_first, fed_first}
use Rattle.sheet_runs.specs.declared.other.Other.{Other}
use Rattle.sheet_runs.specs.inside.Running.{AreLimited, Going, UnlessLacking, all_going, going_in, going_of, main_going}

-- Documents that were read on

abbrev shown : Open → Going
shown d = record { name = d.name; read = fed d.source.lexer }

going-gone : (gone kept : List Open) → AreEnded gone → going_in (gone ++ kept) ≡ going_in kept
going-gone [] kept e = refl
going-gone (d ∷ gone) kept e =
    ap (λ b. if b then going_in (gone ++ kept) else shown d ∷ going_in (gone ++ kept)) e.0 ∙ going-gone gone kept e.1

going-on : (xs ys : List Open) → AreReadOn xs ys → going_in ys ≡ going_in xs
going-on [] [] h = refl
going-on [] (y ∷ ys) h = absurd h
going-on (x ∷ xs) [] h = absurd h
going-on (x ∷ xs) (y ∷ ys) h =
    let b : Bool = x.source.lexer.ended in
    ap (λ b. if b then going_in ys else shown y ∷ going_in ys) h.0.ended
    ∙ ap (λ l. if b then l else shown y ∷ l) (going-on xs ys h.1)
    ∙ ap (λ n. if b then going_in xs else record { name = n; read = fed y.source.lexer } ∷ going_in xs) h.0.name
    ∙ ap (λ m. if b then going_in xs else record { name = x.name; read = m } ∷ going_in xs) h.0.fed_is

pub going-took : (before after : List Open) → Took before after → going_in after ≡ going_in before
going-took before after t = going-on t.kept after t.on ∙ sym (going-gone t.gone t.kept t.ended) ∙ ap going_in (sym t.parts)

module _ (limits : Limits) where
  limited-kept : (gone kept : List Open) → AreLimited limits (gone ++ kept) → AreLimited limits kept
  limited-kept [] kept h = h
  limited-kept (d ∷ gone) kept h = limited-kept gone kept h.1

  limited-on : (xs ys : List Open) → AreReadOn xs ys → AreLimited limits xs → AreLimited limits ys
  limited-on [] [] h l = tt
  limited-on [] (y ∷ ys) h l = absurd h
  limited-on (x ∷ xs) [] h l = absurd h
  limited-on (x ∷ xs) (y ∷ ys) h l = (h.0.limits ∙ l.0, limited-on xs ys h.1 l.1)

  pub limited-took : (before after : List Open) → Took before after → AreLimited limits before → AreLimited limits after
  limited-took before after t l = limited-on t.kept after t.on (limited-kept t.gone t.kept (subst (AreLimited limits) t.parts l))

-- so it is, unless memory was wanting
pub unless-took : (s : Stage) (before after : List Open) (P : Type 0) → Takes s before after → (Took before after → P) → UnlessLacking s P
unless-took spec.New before after P t f = f t
unless-took spec.Main before after P t f = f t
unless-took spec.Document before after P t f = f t
unless-took (spec.Wants name) before after P t f = f t
unless-took (spec.Over ended.Done) before after P t f = f t
unless-took (spec.Over (ended.Run file code offset)) before after P t f = f t
unless-took (spec.Over ended.Usage) before after P t f = f t
unless-took (spec.Over (ended.Sheet fault)) before after P t f = f t
unless-took (spec.Over (ended.Xml file fault)) before after P t f = f t
unless-took (spec.Over (ended.Host file fault offset)) before after P t f = f t
unless-took (spec.Over (ended.Fuel file offset)) before after P t f = f t
unless-took (spec.Over ended.Memory) before after P t f = tt

-- Pieces

-- the newest document goes on with bytes
pub going-fed : (bytes : List ℕ) (d : Open) (ds : List Open) → d.source.lexer.ended ≡ false
    → going_in (fed_first bytes (d ∷ ds)) ≡ record { name = d.name; read = fed d.source.lexer + length bytes } ∷ going_in ds
going-fed bytes d ds e =
    let r = d.source.lexer in
    let count : r.offset + length (r.unread ++ bytes) ≡ fed r + length bytes = omega (arith, length-append r.unread bytes) in
    ap (λ b. if b then going_in ds else record { name = d.name; read = r.offset + length (r.unread ++ bytes) } ∷ going_in ds) e
    ∙ ap (λ n. record { name = d.name; read = n } ∷ going_in ds) count

-- it ends
pub going-ended : (d : Open) (ds : List Open) → going_in (ended_first (d ∷ ds)) ≡ going_in ds
going-ended d ds = refl

-- it goes on
pub going-first : (d : Open) (ds : List Open) → d.source.lexer.ended ≡ false → going_in (d ∷ ds) ≡ record { name = d.name; read = fed d.source.lexer } ∷ going_in ds
going-first d ds e = ap (λ b. if b then going_in ds else shown d ∷ going_in ds) e

pub limited-fed : (limits : Limits) (bytes : List ℕ) (ds : List Open) → AreLimited limits ds → AreLimited limits (fed_first bytes ds)
limited-fed limits bytes [] l = tt
limited-fed limits bytes (d ∷ ds) l = l

pub limited-ended : (limits : Limits) (ds : List Open) → AreLimited limits ds → AreLimited limits (ended_first ds)
limited-ended limits [] l = tt
limited-ended limits (d ∷ ds) l = l

-- Which documents are read

-- one is read beside those
pub all-more : (others : List Other) (o : Other) (ended : Bool) (read : ℕ) → all_going (others ++ o ∷ []) ended read ≡ going_of o ∷ all_going others ended read
all-more others o ended read = ap (λ l. map going_of l ++ main_going ended read) (reverse-append others (o ∷ []))

-- a list has a last one, unless it is empty
pub lasts : (others : List Other) → (others ≡ []) ⊎ ((front : List Other) × (o : Other) × (others ≡ front ++ o ∷ []))
lasts [] = inl refl
lasts (x ∷ others) = inr (elim (lasts others) [
  | inl is ↦ ([], x, ap (λ l. x ∷ l) is)
  | inr s ↦ (x ∷ s.0, s.1, ap (λ l. x ∷ l) s.2)
])

abbrev first_or : Going → List Going → Going
first_or d [] = d
first_or d (g ∷ gs) = g

firsts : (a b : Going) (xs ys : List Going) → a ∷ xs ≡ b ∷ ys → a ≡ b
firsts a b xs ys e = ap (first_or a) e

rests : (a b : Going) (xs ys : List Going) → a ∷ xs ≡ b ∷ ys → xs ≡ ys
rests a b xs ys e = ap (drop 1) e

none-some : (x : List ℕ) → None ≡ Some x → ⊥
none-some x e = cc

some-some : (x y : List ℕ) → Some x ≡ Some y → x ≡ y
some-some x y e = cc

pub not-empty : (g : Going) (gs : List Going) → g ∷ gs ≡ [] → ⊥
not-empty g gs e = cc

-- where the main document is the newest that goes on, no other one is read
pub record MainAlone (others : List Other) (ended : Bool) (read m : ℕ) (rest : List Going) : Type 0 where
  pub others_is : others ≡ []
  pub ended_is : ended ≡ false
  pub read_is : m ≡ read
  pub rest_is : rest ≡ []

main-first : (ended : Bool) (read m : ℕ) (rest : List Going) → record { name = None; read = m } ∷ rest ≡ main_going ended read → MainAlone [] ended read m rest
main-first true read m rest e = absurd (not-empty (record { name = None; read = m }) rest e)
main-first false read m rest e = record {
  others_is = refl;
  ended_is = refl;
  read_is = ap (λ (g : Going). g.read) (firsts (record { name = None; read = m }) (record { name = None; read = read }) rest [] e);
  rest_is = rests (record { name = None; read = m }) (record { name = None; read = read }) rest [] e;
}

pub main-alone : (others : List Other) (ended : Bool) (read m : ℕ) (rest : List Going) → record { name = None; read = m } ∷ rest ≡ all_going others ended read → MainAlone others ended read m rest
main-alone others ended read m rest e = elim (lasts others) [
  | inl is ↦ subst (λ os. MainAlone os ended read m rest) (sym is) (main-first ended read m rest (subst (λ os. record { name = None; read = m } ∷ rest ≡ all_going os ended read) is e))
  | inr s ↦
      let first : Going = record { name = None; read = m } in
      let both : first ∷ rest ≡ going_of s.1 ∷ all_going s.0 ended read = subst (λ os. first ∷ rest ≡ all_going os ended read) s.2 e ∙ all-more s.0 s.1 ended read in
      absurd (none-some s.1.name (ap (λ (g : Going). g.name) (firsts first (going_of s.1) rest (all_going s.0 ended read) both)))
]

-- where another one is, it is the last of those that are read
pub record LastIs (others : List Other) (ended : Bool) (read : ℕ) (name : List ℕ) (m : ℕ) (rest : List Going) : Type 0 where
  pub front : List Other
  pub last : Other
  pub others_is : others ≡ front ++ last ∷ []
  pub name_is : last.name ≡ name
  pub read_is : last.read ≡ m
  pub rest_is : rest ≡ all_going front ended read

not-main : (ended : Bool) (read : ℕ) (name : List ℕ) (m : ℕ) (rest : List Going) → record { name = Some name; read = m } ∷ rest ≡ main_going ended read → ⊥
not-main true read name m rest e = not-empty (record { name = Some name; read = m }) rest e
not-main false read name m rest e =
    none-some name (sym (ap (λ (g : Going). g.name) (firsts (record { name = Some name; read = m }) (record { name = None; read = read }) rest [] e)))

pub last-is : (others : List Other) (ended : Bool) (read : ℕ) (name : List ℕ) (m : ℕ) (rest : List Going) → record { name = Some name; read = m } ∷ rest ≡ all_going others ended read → LastIs others ended read name m rest
last-is others ended read name m rest e = elim (lasts others) [
  | inl is ↦ absurd (not-main ended read name m rest (subst (λ os. record { name = Some name; read = m } ∷ rest ≡ all_going os ended read) is e))
  | inr s ↦
      let first : Going = record { name = Some name; read = m } in
      let both : first ∷ rest ≡ going_of s.1 ∷ all_going s.0 ended read = subst (λ os. first ∷ rest ≡ all_going os ended read) s.2 e ∙ all-more s.0 s.1 ended read in
      let one : first ≡ going_of s.1 = firsts first (going_of s.1) rest (all_going s.0 ended read) both in
      record {
        front = s.0;
        last = s.1;
        others_is = s.2;
        name_is = sym (some-some name s.1.name (ap (λ (g : Going). g.name) one));
        read_is = sym (ap (λ (g : Going). g.read) one);
        rest_is = rests first (going_of s.1) rest (all_going s.0 ended read) both;
      }
]

-- What is asked for

-- the main document is asked for
pub record AsksForMain (others : List Other) (ended : Bool) (read : ℕ) (documents : List Open) (limits : Limits) : Type 0 where
  pub newest : Open
  pub older : List Open
  pub documents_is : documents ≡ newest ∷ older
  pub unended : newest.source.lexer.ended ≡ false
  pub main : newest.name ≡ None
  pub alone : others ≡ []
  pub goes_on : ended ≡ false
  pub read_is : fed newest.source.lexer ≡ read
  pub older_is : going_in older ≡ []
  pub within : read ≤ limits.input

pub asks-main : (others : List Other) (ended : Bool) (read : ℕ) (documents : List Open) (limits : Limits) → going_in documents ≡ all_going others ended read → AreLimited limits documents → MainIsHungry documents
    → AsksForMain others ended read documents limits
asks-main others ended read [] limits going limited h = absurd h
asks-main others ended read (d ∷ ds) limits going limited h =
    let m = fed d.source.lexer in
    let e : record { name = None; read = m } ∷ going_in ds ≡ all_going others ended read =
    ap (λ n. record { name = n; read = m } ∷ going_in ds) (sym h.0) ∙ sym (going-first d ds h.1.unended) ∙ going in
    let a = main-alone others ended read m (going_in ds) e in
    record {
      newest = d;
      older = ds;
      documents_is = refl;
      unended = h.1.unended;
      main = h.0;
      alone = a.others_is;
      goes_on = a.ended_is;
      read_is = a.read_is;
      older_is = a.rest_is;
      within = omega (arith, h.1.within, a.read_is, ap (λ (l : Limits). l.input) limited.0);
    }

-- another document is asked for
pub record AsksForOther (others : List Other) (ended : Bool) (read : ℕ) (documents : List Open) (limits : Limits) : Type 0 where
  pub newest : Open
  pub older : List Open
  pub documents_is : documents ≡ newest ∷ older
  pub unended : newest.source.lexer.ended ≡ false
  pub front : List Other
  pub last : Other
  pub others_is : others ≡ front ++ last ∷ []
  pub name_is : newest.name ≡ Some last.name
  pub read_is : fed newest.source.lexer ≡ last.read
  pub older_is : going_in older ≡ all_going front ended read
  pub within : last.read ≤ limits.input

some-name : (name : Option (List ℕ)) → IsSome name → (x : List ℕ) × (name ≡ Some x)
some-name None h = absurd (false≢true h)
some-name (Some x) h = (x, refl)

pub asks-other : (others : List Other) (ended : Bool) (read : ℕ) (documents : List Open) (limits : Limits) → going_in documents ≡ all_going others ended read → AreLimited limits documents → OtherIsHungry documents
    → AsksForOther others ended read documents limits
asks-other others ended read [] limits going limited h = absurd h
asks-other others ended read (d ∷ ds) limits going limited h =
    let m = fed d.source.lexer in
    let named = some-name d.name h.0 in
    let e : record { name = Some named.0; read = m } ∷ going_in ds ≡ all_going others ended read =
    ap (λ n. record { name = n; read = m } ∷ going_in ds) (sym named.1) ∙ sym (going-first d ds h.1.unended) ∙ going in
    let l = last-is others ended read named.0 m (going_in ds) e in
    record {
      newest = d;
      older = ds;
      documents_is = refl;
      unended = h.1.unended;
      front = l.front;
      last = l.last;
      others_is = l.others_is;
      name_is = named.1 ∙ ap Some (sym l.name_is);
      read_is = sym l.read_is;
      older_is = l.rest_is;
      within = omega (arith, h.1.within, l.read_is, ap (λ (l : Limits). l.input) limited.0);
    }
