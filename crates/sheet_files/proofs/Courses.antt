-- What files come to, by what is still to be done.
use Rattle.std.proofs.Common.{◌≡◌, ℕ, List, ◌++◌, Option, sym, ap, subst, ◌∙◌}
use Rattle.stx_base.specs.Course.{Course, says, Answer, Given, Over, Unknown, after, run, Gives, Ends}
use Rattle.stx_base.proofs.Course.{value_says, said_ends, ends_said, same_says, same_then}
use Rattle.sheet_loader.specs.Laws.{ComesToOne}
use Rattle.sheet_loader.specs.Load.{outcome, sheet_of}
use Rattle.sheet_loader.specs.Read.{code_of_job}
use Rattle.sheet_loader.specs.Reading.{Ending, File, Listed, Does}
use Rattle.sheet_loader.specs.Resuming.{SameAnswer}
use Rattle.sheet_loader.specs.Values.{Reads}

module _ {R O E : Type 0} where
  after_given : (os ps : List O) (a : Answer R O E) (r : R) → after os a ≡ Given ps r → (rs : List O) × (a ≡ Given rs r) × (os ++ rs ≡ ps)
  after_given os ps (Given rs s) r h = let q : os ++ rs ≡ ps = cc in let z : s ≡ r = cc in (rs, ap (Given rs) z, q)
  after_given os ps (Over rs e) r h = cc
  after_given os ps (Unknown rs) r h = cc

module _ {Q R O E : Type 0} {code : Q → Course Q R O E} where
  -- a result after os was said is a result of what follows
  pub said_gives : (os : List O) (x : Course Q R O E) {ps : List O} {r : R} → Gives code (says os x) ps r → (rs : List O) × Gives code x rs r × (os ++ rs ≡ ps)
  said_gives os x {ps} {r} a =
      let c = after_given os ps _ r (sym (value_says (run code a.depth) os x) ∙ a.comes) in
      (c.0, record { depth = a.depth; comes = c.1 }, c.2)

  pub gives_said : (os : List O) {x : Course Q R O E} {ps : List O} {r : R} → Gives code x ps r → Gives code (says os x) (os ++ ps) r
  gives_said os {x} {ps} {r} a =
      record { depth = a.depth; comes = value_says (run code a.depth) os x ∙ ap (after os) a.comes }

module _ (reads : Reads) (files : List (Option File)) where
  said_one_way : (os : List (List ℕ)) (x y : Does Listed) → ((ps : List (List ℕ)) (r : Listed) → Gives (code_of_job reads files) x ps r → Gives (code_of_job reads files) y ps r) → (ps : List (List ℕ)) (r : Listed) → Gives (code_of_job reads files) (says os x) ps r → Gives (code_of_job reads files) (says os y) ps r
  said_one_way os x y g ps r a =
      let c = said_gives os x a in
      subst (λ l. Gives (code_of_job reads files) (says os y) l r) c.2 (gives_said os (g c.0 r c.1))

  pub equal_answer : {x y : Does Listed} → x ≡ y → SameAnswer reads files x y
  equal_answer {x} {y} e = subst (λ (z : Does Listed). SameAnswer reads files x z) e (record { ends = record { to = λ os f h. h; from = λ os f h. h }; to = λ os r h. h; from = λ os r h. h })

  pub answer_then : {x y z : Does Listed} → SameAnswer reads files x y → SameAnswer reads files y z → SameAnswer reads files x z
  answer_then a b = record { ends = same_then a.ends b.ends; to = λ os r h. b.to os r (a.to os r h); from = λ os r h. a.from os r (b.from os r h) }

  pub answer_back : {x y : Does Listed} → SameAnswer reads files x y → SameAnswer reads files y x
  answer_back a = record { ends = record { to = a.ends.from; from = a.ends.to }; to = a.from; from = a.to }

  -- the same, after the same was said
  pub answer_said : (os : List (List ℕ)) {x y : Does Listed} → SameAnswer reads files x y → SameAnswer reads files (says os x) (says os y)
  answer_said os {x} {y} a = record { ends = same_says os a.ends; to = said_one_way os x y a.to; from = said_one_way os y x a.from }

  -- how files end of which this is still to be done
  pub ends_so : ComesToOne → (name : List ℕ) (os : List (List ℕ)) (x : Does Listed) (ps : List (List ℕ)) (e : Ending) → SameAnswer reads files (sheet_of reads name files) (says os x) → Ends (code_of_job reads files) x ps e → outcome reads name files ≡ Over (os ++ ps) e
  ends_so one name os x ps e same ends = sym ((one reads name files).1 (Over (os ++ ps) e) (same.ends.from (os ++ ps) e (ends_said os ends)))

  -- what they give
  pub gives_so : ComesToOne → (name : List ℕ) (os : List (List ℕ)) (x : Does Listed) (ps : List (List ℕ)) (r : Listed) → SameAnswer reads files (sheet_of reads name files) (says os x) → Gives (code_of_job reads files) x ps r → outcome reads name files ≡ Given (os ++ ps) r
  gives_so one name os x ps r same gives = sym ((one reads name files).1 (Given (os ++ ps) r) (same.from (os ++ ps) r (gives_said os gives)))

  -- what files came to says all that was said first
  pub names_first : (name : List ℕ) (os : List (List ℕ)) (x : Does Listed) (ps : List (List ℕ)) (e : Ending) → SameAnswer reads files (sheet_of reads name files) (says os x) → Ends (code_of_job reads files) (sheet_of reads name files) ps e → (rs : List (List ℕ)) × Ends (code_of_job reads files) x rs e × (os ++ rs ≡ ps)
  names_first name os x ps e same ends = said_ends os x (same.ends.to ps e ends)
