-- The lexemes of a document, one after another.
use Rattle.std.specs.Prelude.{ℕ, zero, suc, Bool, List, [], ◌∷◌, length}
use Rattle.stx_base.specs.declared.limits.Limits.{Limits}
use Rattle.xml_tokens.specs.Reader.{Reader, begun, due, after}
use Rattle.xml_tokens.specs.declared.lexeme.Lexeme.{Lexeme}
use Rattle.xml_tokens.specs.declared.lexeme.Step.{Step}
use Rattle.xml_tokens.specs.declared.lexeme.Step.TheVariants as step

-- lexemes in document order, and the answer that comes after them
pub record Lexed : Type 0 where
  pub lexemes : List Lexeme
  pub last : Step

-- an answer, and what comes after it where it is a lexeme
abbrev pub answered : Step → (Lexeme → Lexed) → Lexed
answered (step.Lexeme l) others = record { lexemes = l ∷ (others l).lexemes; last = (others l).last }
answered step.Need others = record { lexemes = []; last = step.Need }
answered step.End others = record { lexemes = []; last = step.End }
answered (step.Bad fault) others = record { lexemes = []; last = step.Bad fault }
answered step.Memory others = record { lexemes = []; last = step.Memory }

-- what a reader still gives, of which no more than n answers are asked
abbrev pub lexed_within : ℕ → Reader → Lexed
lexed_within zero r = record { lexemes = []; last = step.Need }
lexed_within (suc n) r = answered (due r) (λ l. lexed_within n (after r (step.Lexeme l)))

-- what a reader still gives: each lexeme takes a byte at least, so that no more answers come than this
abbrev pub lexed_from : Reader → Lexed
lexed_from r = lexed_within (suc (length r.unread)) r

-- a document of which no byte is read yet; `ended` says that these are all its bytes, and not only its first ones
abbrev pub unread : Limits → List ℕ → (ended : Bool) → Reader
unread limits bytes ended = record (begun limits) { unread = bytes; ended = ended }

-- the lexemes of a document (XML 1.0, 2.4 to 2.8 and 3.1)
abbrev pub lexed : Limits → List ℕ → (ended : Bool) → Lexed
lexed limits bytes ended = lexed_from (unread limits bytes ended)
