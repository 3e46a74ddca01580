-- From the functions' answers to what a text is read as.
use Rattle.std.proofs.Common.{◌≡◌, ℕ, ◌+◌, List, Some, None, Option, Result, Ok, Err, length, sym, refl, subst}
use Rattle.stx_base.specs.declared.name.Binding.{Binding}
use Rattle.stxpath_syntax.specs.declared.dialect.Dialect.{Dialect}
use Rattle.stxpath_syntax.specs.declared.fault.ParseFault.{ParseFault}
use Rattle.stxpath_syntax.specs.declared.fault.ParseFault.TheVariants as fault
use Rattle.stxpath_syntax.specs.declared.meant.Meant.{Meant}
use Rattle.stxpath_syntax.specs.declared.state.State.{State}
use Rattle.stxpath_syntax.specs.declared.token.Placed.{Placed}
use Rattle.stxpath_syntax.specs.Lexing.{Lexes}
use Rattle.stxpath_syntax.specs.Machine.{run}
use Rattle.stxpath_syntax.specs.Reading.{Readings, Gives}
use Rattle.stxpath_syntax.specs.Running.{Runs, whole_read}
use Rattle.stxpath_syntax.specs.Template.{Answers, Read}
use Rattle.stxpath_syntax.specs.Tokens.{Tokens}
use Rattle.stxpath_syntax.proofs.Stopping.{Decided, sticks, ends_early, gives}

-- a fault among the tokens
pub no_tokens : {A : Type 0} (Means : Readings A) (at : ℕ) (text : List ℕ) (e : ParseFault) → Lexes at text (Err e) → Answers (Gives Means at text) (Err e)
no_tokens Means at text (fault.Path f) h = Gives.no_token h.0 f h.1
no_tokens Means at text fault.Memory h = tt

-- an answer that is determined
pub answered : {A : Type 0} (Means : Readings A) (at : ℕ) (text : List ℕ) (read : Read A) (result : Result A ParseFault) → Answers (λ r. r ≡ read) result
    → Gives Means at text read → Answers (Gives Means at text) result
answered Means at text read (Ok a) e g = subst (λ r. Gives Means at text r) (sym e) g
answered Means at text read (Err (fault.Path f)) e g = subst (λ r. Gives Means at text r) (sym e) g
answered Means at text read (Err fault.Memory) e g = tt

module _ (dialect : Dialect) (scope : List Binding) where
  -- a token with which no reading goes on
  pub no_state : {A : Type 0} (Means : Readings A) (begun : State) (end : State → Option (Meant A)) → Decided dialect scope Means begun end
      → (at : ℕ) (text : List ℕ) (ts : List Placed) (e : ParseFault) → Tokens at text ts None → Runs dialect scope begun ts (Err e) → Answers (Gives Means at text) (Err e)
  no_state Means begun end d at text ts (fault.Path f) l h =
      subst (λ f. Gives Means at text (Err f)) (sym h.2)
      (Gives.no_reading ts h.0.at l (sticks dialect scope Means begun end d (at + length text) ts h.0 h.1))
  no_state Means begun end d at text ts fault.Memory l h = tt

  pub ends_by : {A : Type 0} (Means : Readings A) (begun : State) (end : State → Option (Meant A)) → Decided dialect scope Means begun end
      → (at : ℕ) (text : List ℕ) (ts : List Placed) (s : State) (o : Option (Meant A)) → Tokens at text ts None → run dialect scope ts begun ≡ Some s → end s ≡ o
      → Gives Means at text (whole_read o (at + length text))
  ends_by Means begun end d at text ts s None l e f = Gives.no_reading ts (at + length text) l (ends_early dialect scope Means begun end d (at + length text) ts s e f)
  ends_by Means begun end d at text ts s (Some m) l e f = gives dialect scope Means begun end d at text ts s m l e f

  -- tokens that run through
  pub ran : {A : Type 0} (Means : Readings A) (begun : State) (end : State → Option (Meant A)) → Decided dialect scope Means begun end
      → (at : ℕ) (text : List ℕ) (ts : List Placed) (s : State) (result : Result A ParseFault) → Tokens at text ts None → run dialect scope ts begun ≡ Some s
      → Answers (λ read. read ≡ whole_read (end s) (at + length text)) result → Answers (Gives Means at text) result
  ran Means begun end d at text ts s result l e a =
      answered Means at text (whole_read (end s) (at + length text)) result a (ends_by Means begun end d at text ts s (end s) l e refl)
