-- Nodes that are read as they are.
use Rattle.std.proofs.Common.{◌≡◌, ◌≢◌, ℕ, Bool, true, false, not, List, [], ◌∷◌, refl, ap, ◌∙◌}
use Rattle.std.specs.Prelude.{slice_get, if◌then◌else◌}
use Rattle.std.specs.Option.{option_map_or}
use Rattle.std.proofs.lemmas.Bool.{and_parts}
use Rattle.stx_base.specs.Character.{is_space}
use Rattle.result_writer.specs.Laws.{IsBehindText, IsProper, MakesProper}
use Rattle.result_writer.specs.Nodes.{Nodes, End, Chars, CData, Comment, Instruction, Nested, forest, text_before}
use Rattle.read_back.specs.Laws.{ReadsTheSame}
use Rattle.read_back.specs.Read.{as_read, is_bare}
use Rattle.read_back.specs.Reading.{read_data}

data_same : (text : List ℕ) → not (option_map_or is_space (slice_get text 0) false) ≡ true → read_data text ≡ text
data_same [] h = refl
data_same (c ∷ cs) h = by_test (is_space c) h where
  by_test : (t : Bool) → not t ≡ true → (if t then read_data cs else c ∷ cs) ≡ c ∷ cs
  by_test true e = absurd cc
  by_test false e = refl

text_same : (text : List ℕ) (next : Nodes) → text ≢ [] → IsBehindText next → text_before text next ≡ Chars text next
text_same [] next some h = absurd (some refl)
text_same (c ∷ cs) End some h = refl
text_same (c ∷ cs) (Chars more next) some h = absurd h
text_same (c ∷ cs) (CData more next) some h = refl
text_same (c ∷ cs) (Comment more next) some h = refl
text_same (c ∷ cs) (Instruction target more next) some h = refl
text_same (c ∷ cs) (Nested tag kids next) some h = refl

same : (nodes : Nodes) → IsProper nodes → is_bare nodes ≡ true → as_read true nodes ≡ nodes
same End h k = refl
same (Chars text next) h k = ap (text_before text) (same next h.2 k) ∙ text_same text next h.0 h.1
same (CData text next) h k = ap (CData text) (same next h k)
same (Comment text next) h k = ap (Comment text) (same next h k)
same (Instruction target text next) h k =
    let both = and_parts (not (option_map_or is_space (slice_get text 0) false)) (is_bare next) k in
    λ i. Instruction target (data_same text both.0 i) (same next h both.1 i)
same (Nested tag kids next) h k =
    let both = and_parts (is_bare kids) (is_bare next) k in λ i. Nested tag (same kids h.0 both.0 i) (same next h.1 both.1 i)

pub reads_the_same : MakesProper → ReadsTheSame
reads_the_same proper ps k = same (forest ps) (proper ps) k
