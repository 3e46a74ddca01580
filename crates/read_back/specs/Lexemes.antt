-- The lexemes that nodes are written as (XML 1.0, 2.4 to 2.7 and 3.1).
use Rattle.std.specs.Prelude.{◌≡◌, ℕ, false, if◌then◌else◌, List, [], ◌∷◌, ◌++◌, Ok, encode_utf8_all}
use Rattle.std.specs.List.{list_all}
use Rattle.stx_base.specs.Character.{is_space}
use Rattle.stx_base.specs.declared.name.Binding.{Binding}
use Rattle.xml_tokens.specs.Judged.{judged}
use Rattle.xml_tokens.specs.declared.lexeme.Body.{Body}
use Rattle.xml_tokens.specs.declared.lexeme.Body.TheVariants as body
use Rattle.result_writer.specs.Escape.{escaped}
use Rattle.result_writer.specs.Nodes.{Nodes, End, Chars, CData, Comment, Instruction, Nested, in_one, inside, is_end}
use Rattle.result_writer.specs.Tag.{dressed}
use Rattle.result_writer.specs.declared.escape.Context.TheVariants.{Content}
use Rattle.read_back.specs.Reading.{raw_attrs, read_data, written_name}

-- a text as a lexeme: it is blank where white space alone is written of it
abbrev pub text_body : List ℕ → Body
text_body text = body.Chars text (list_all is_space (escaped Content (encode_utf8_all text)))

-- a text before lexemes: an empty one is none, and it joins a text that follows it
abbrev pub text_before : List ℕ → List Body → List Body
text_before [] bodies = bodies
text_before (c ∷ cs) (body.Chars more blank ∷ bodies) = text_body (c ∷ cs ++ more) ∷ bodies
text_before (c ∷ cs) bodies = text_body (c ∷ cs) ∷ bodies

-- The lexemes of nodes where these bindings are in force: a text is one with those beside it, and an element without nodes in it is one tag.
abbrev pub bodies : (in_force : List Binding) → Nodes → List Body
bodies in_force End = []
bodies in_force (Chars text next) = text_before text (bodies in_force next)
bodies in_force (CData text next) = body.CData text ∷ bodies in_force next
bodies in_force (Comment text next) = body.Comment text ∷ bodies in_force next
bodies in_force (Instruction target text next) = body.Pi target (read_data text) ∷ bodies in_force next
bodies in_force (Nested tag kids next) =
    let t = in_one tag in
    let name = written_name t.name.prefix t.name.local in
    body.Start name (raw_attrs (dressed in_force t) t.attrs) (is_end kids)
    ∷ ((if is_end kids then [] else bodies (inside in_force t) kids ++ body.End name ∷ []) ++ bodies in_force next)

-- these shapes say these lexemes, behind a document's very start
abbrev pub AreJudged : (shapes : List (List ℕ)) → List Body → Type 0
AreJudged [] [] = Unit {0}
AreJudged [] (b ∷ bs) = ⊥
AreJudged (shape ∷ shapes) [] = ⊥
AreJudged (shape ∷ shapes) (b ∷ bs) = (judged false shape ≡ Ok b) × AreJudged shapes bs
