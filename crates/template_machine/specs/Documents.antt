-- The documents that are open.
use Rattle.std.specs.Prelude.{ℕ, zero, suc, Bool, true, false, List, [], ◌∷◌, reverse}
use Rattle.node_stack.specs.Stack.{path}
use Rattle.template_machine.specs.declared.run.Run.{Run}
use Rattle.template_machine.specs.declared.source.Origin.{Origin}
use Rattle.template_machine.specs.declared.source.Origin.TheVariants as origin
use Rattle.template_machine.specs.declared.source.Source.{Source}

-- an open document: whether it is the main one, how many elements may be open in it at once, and how many lists are
pub record Open : Type 0 where
  pub main : Bool
  pub limit : ℕ
  pub lists : ℕ

abbrev pub is_main : Origin → Bool
is_main origin.Main = true
is_main o = false

-- a source before other documents: a buffer is no document, and one that has ended isn't open
abbrev pub open_before : Origin → (limit begun : ℕ) → List Open → List Open
open_before (origin.Buffer id at) limit n others = others
open_before o limit zero others = others
open_before o limit (suc n) others = record { main = is_main o; limit = limit; lists = suc n } ∷ others

-- those of sources, the innermost of which is the first
abbrev pub open_in : List Source → List Open
open_in [] = []
open_in (s ∷ ss) = open_before s.origin (path s.stack).limit s.begun (open_in ss)

-- those of a run, the newest first, and the main document last
abbrev pub documents : Run → List Open
documents r = open_in (r.source ∷ reverse r.outer.items)
