-- Each thing that comes is done by going on with what is open.
use Rattle.std.proofs.Common.{◌≡◌, ℕ, ◌-◌, List, [], ◌∷◌, ◌++◌, length, slice_get, Option, Some, None, refl, ap, sym, ◌∙◌, zero, suc, arith, if◌then◌else◌, codes}
use Rattle.std.proofs.Math.Path.{subst}
use Rattle.stx_base.specs.Course.{Ret, Say, Ask, Given, Gives, and_then, run, value}
use Rattle.stx_base.proofs.Course.{and_then_assoc, below_self, deeper, given_below, same_equal, same_then, unfolded, value_and_then, with_result_below}
use Rattle.xml_events.specs.Tree.{Chars, CData, Comment, Pi, End, Cut, Single, Nested, Need, Bad}
use Rattle.sheet_loader.specs.Judging.{scope_at}
use Rattle.sheet_loader.specs.Making.{as_word, value_at}
use Rattle.sheet_loader.specs.Read.{closed, code_of_job, file_given, file_of, listed, text_of, when_known, within}
use Rattle.sheet_loader.specs.Reading.{File, Listed, Job, Nodes, Does, ends_at}
use Rattle.sheet_loader.specs.Resuming.{SameAnswer, Begins, CutsList, EndsList, OpensElement, OpensFile, OpensLiteral, OpensPart, PassesOver, TakesElement, TakesText, continue, opened, resume}
use Rattle.sheet_loader.specs.Values.{Reads}

module _ (reads : Reads) (files : List (Option File)) where
  pub equal_answer : {x y : Does Listed} → x ≡ y → SameAnswer reads files x y
  equal_answer {x} {y} e = subst (λ z. SameAnswer reads files x z) e itself where
    itself : SameAnswer reads files x x
    itself = record { ends = same_equal (code_of_job reads files) refl; to = λ names r h. h; from = λ names r h. h }

  pub answer_then : {x y z : Does Listed} → SameAnswer reads files x y → SameAnswer reads files y z → SameAnswer reads files x z
  answer_then a b = record { ends = same_then a.ends b.ends; to = λ names r h. b.to names r (a.to names r h); from = λ names r h. a.from names r (b.from names r h) }

  -- a call does what its code says
  called : (q : Job) (k : Listed → Does Listed) → SameAnswer reads files (Ask q k) (and_then (code_of_job reads files q) k)
  called q k =
      record {
        ends = unfolded (code_of_job reads files) q k;
        to = λ names r g. gives_back q k names r g.depth g.comes;
        from = λ names r g. record {
          depth = suc g.depth;
          comes = given_below _ _ names r (with_result_below _ _ _ _ (below_self (value (run (code_of_job reads files) g.depth) (code_of_job reads files q))) (λ s. deeper (code_of_job reads files) g.depth (suc g.depth) (omega arith) (k s))) (sym (value_and_then (run (code_of_job reads files) g.depth) (code_of_job reads files q) k) ∙ g.comes);
        };
      }
    where
      gives_back : (q : Job) (k : Listed → Does Listed) (names : List (List ℕ)) (r : Listed) (n : ℕ) → value (run (code_of_job reads files) n) (Ask q k) ≡ Given names r → Gives (code_of_job reads files) (and_then (code_of_job reads files q) k) names r
      gives_back q k names r zero h = cc
      gives_back q k names r (suc n) h = record {
        depth = suc n;
        comes = value_and_then (run (code_of_job reads files) (suc n)) (code_of_job reads files q) k ∙ given_below _ _ names r (with_result_below _ _ _ _ (deeper (code_of_job reads files) n (suc n) (omega arith) (code_of_job reads files q)) (λ s. below_self _)) h;
      }

  unfolds : (q : Job) (k : Listed → Does Listed) {y : Does Listed} → and_then (code_of_job reads files q) k ≡ y → SameAnswer reads files (Ask q k) y
  unfolds q k e = answer_then (called q k) (equal_answer e)

  pub ends_list : EndsList reads files
  ends_list here before l opens f mark offset = unfolds (Nodes here before (End mark offset) l) (λ r. continue reads files opens r f) refl

  pub cuts_list : CutsList reads files
  cuts_list here before l opens f (Bad fault) = unfolds (Nodes here before (Cut (Bad fault)) l) (λ r. continue reads files opens r f) refl
  cuts_list here before l opens f Need = unfolds (Nodes here before (Cut Need) l) (λ r. continue reads files opens r f) (of_limit here.limit) where
    of_limit : (o : Option ℕ) → and_then (ends_at here o) (λ r. continue reads files opens r f) ≡ ends_at here o
    of_limit None = refl
    of_limit (Some most) = refl

  pub passes_over : PassesOver reads files
  passes_over here before l opens f mark next offset = (
    λ text. unfolds (Nodes here before (Single mark (Comment offset text) next) l) (λ r. continue reads files opens r f) refl,
    λ target text. unfolds (Nodes here before (Single mark (Pi offset target text) next) l) (λ r. continue reads files opens r f) refl,
  )

  pub takes_text : TakesText reads files
  takes_text here before l opens f mark next offset text =
      let behind : Listed → Does Listed = λ r. Ask (Nodes here (before ++ r.items) next r.loading) Ret in
      let e = and_then_assoc (text_of reads files here offset text l) behind (λ r. continue reads files opens r f) in (
        unfolds (Nodes here before (Single mark (Chars offset text) next) l) (λ r. continue reads files opens r f) e,
        unfolds (Nodes here before (Single mark (CData offset text) next) l) (λ r. continue reads files opens r f) e,
      )

  pub takes_element : TakesElement reads files
  takes_element here before l opens f stage e kids next =
      let behind : Listed → Does Listed = λ r. Ask (Nodes here (before ++ r.items) next r.loading) Ret in
      unfolds (Nodes here before (Nested stage e kids next) l) (λ r. continue reads files opens r f)
      (and_then_assoc (when_known reads files here before stage e kids l) behind (λ r. continue reads files opens r f))

  pub opens_element : OpensElement reads files
  opens_element here before l opens f e kids next kind v n =
      let start = opened here before e kind v l in
      let last : Listed → Does Listed = λ r. closed reads files here e.offset kind (scope_at here e) v r in
      let on : Listed → Does Listed = λ r. Ask (Nodes (within here before kind e v (length r.loading.sheet.groups - 1)) [] kids r.loading) last in
      let go : Listed → Does Listed = λ r. resume reads files here (before ++ r.items) r.loading opens (next ∷ f) in
      ap (λ b. and_then (and_then (if b then file_of reads files here e.offset (as_word (value_at (codes "href") v)) start else Ret (listed [] start)) on) go) n

  pub opens_file : OpensFile reads files
  opens_file here before l opens f e kids next kind v n =
      let start = opened here before e kind v l in
      let href = as_word (value_at (codes "href") v) in
      let last : Listed → Does Listed = λ r. closed reads files here e.offset kind (scope_at here e) v r in
      let on : Listed → Does Listed = λ r. Ask (Nodes (within here before kind e v (length r.loading.sheet.groups - 1)) [] kids r.loading) last in
      let go : Listed → Does Listed = λ r. resume reads files here (before ++ r.items) r.loading opens (next ∷ f) in
      let w = ap (λ b. and_then (and_then (if b then file_of reads files here e.offset href start else Ret (listed [] start)) on) go) n in
      let given : (o : Option (Option File)) → slice_get files (length start.sheet.files) ≡ o
      → and_then (and_then (file_of reads files here e.offset href start) on) go
      ≡ and_then (and_then (Say href (file_given reads files here e.offset (length start.sheet.files) o href start)) on) go
      = λ o g. ap (λ x. and_then (and_then (Say href (file_given reads files here e.offset (length start.sheet.files) x href start)) on) go) g in
      (λ file g. w ∙ given (Some (Some file)) g, λ g. w ∙ given (Some None) g, λ g. w ∙ given None g)

  pub opens_literal : OpensLiteral reads files
  opens_literal here before l opens f e kids next = refl

  pub opens_part : OpensPart reads files
  opens_part here before l opens f e kids next = refl

pub begins : Begins
begins reads name file others = refl
