-- What is kept, as a list of nodes (XML 1.0, 2.1 and 3.1; Namespaces in XML 1.0, 2.1).
use Rattle.std.specs.Prelude.{ℕ, zero, suc, Bool, true, false, List, [], ◌∷◌, ◌++◌}
use Rattle.result_writer.specs.Nodes as nodes
use Rattle.result_writer.specs.Nodes.{Nodes, expanded_tag}
use Rattle.result_writer.specs.declared.opened.SettledTag.{SettledTag}
use Rattle.xml_events.specs.Tree.{Fresh, Waiting, Chars, CData, Comment, Pi, Element, Forest, End, Cut, Single, Nested, Future}
use Rattle.event_buffers.specs.Told.{written_attrs}
use Rattle.event_buffers.specs.declared.kept.Kept.{Kept}
use Rattle.event_buffers.specs.declared.kept.Kept.TheVariants as kept

-- an element with the declarations and prefixes that its tag is written with
abbrev pub element_of : SettledTag → Element
element_of tag = record { offset = 0; name = tag.name; attrs = written_attrs tag; decls = tag.declared }

-- the innermost list of what follows, and the lists around it
abbrev pub inner : Future → Forest
inner [] = End Fresh 0
inner (list ∷ lists) = list

abbrev pub outer : Future → Future
outer [] = []
outer (list ∷ lists) = lists

-- a text before nodes: an empty one is none, and it joins a text that follows it
abbrev pub text_before : List ℕ → Forest → Forest
text_before [] list = list
text_before (c ∷ cs) (Single mark (Chars offset more) next) = Single Fresh (Chars 0 (c ∷ cs ++ more)) next
text_before (c ∷ cs) list = Single Fresh (Chars 0 (c ∷ cs)) list

-- one more before lists of nodes, the innermost first
abbrev pub kept_before : Kept → Future → Future
kept_before (kept.Start tag) f = Nested Waiting (element_of tag) (inner f) (inner (outer f)) ∷ outer (outer f)
kept_before kept.End f = End Fresh 0 ∷ f
kept_before (kept.Chars text) f = text_before text (inner f) ∷ outer f
kept_before (kept.CData text) f = Single Fresh (CData 0 text) (inner f) ∷ outer f
kept_before (kept.Comment text) f = Single Fresh (Comment 0 text) (inner f) ∷ outer f
kept_before (kept.Pi target text) f = Single Fresh (Pi 0 target text) (inner f) ∷ outer f

abbrev pub lists : List Kept → Future
lists [] = []
lists (k ∷ ks) = kept_before k (lists ks)

-- the nodes of what is kept
abbrev pub forest : List Kept → Forest
forest ks = inner (lists ks)

-- the nodes without prefixes and declarations
abbrev pub plain : Forest → Nodes
plain (End mark offset) = nodes.End
plain (Cut why) = nodes.End
plain (Single mark (Chars offset text) next) = nodes.Chars text (plain next)
plain (Single mark (CData offset text) next) = nodes.CData text (plain next)
plain (Single mark (Comment offset text) next) = nodes.Comment text (plain next)
plain (Single mark (Pi offset target text) next) = nodes.Instruction target text (plain next)
plain (Nested stage e kids next) = nodes.Nested (expanded_tag (record { name = e.name; scope = []; attrs = e.attrs })) (plain kids) (plain next)

-- within so many elements: each one that starts ends, so do these, and no other does
abbrev pub is_balanced : List Kept → (within : ℕ) → Bool
is_balanced [] zero = true
is_balanced [] (suc n) = false
is_balanced (kept.Start tag ∷ ks) n = is_balanced ks (suc n)
is_balanced (kept.End ∷ ks) zero = false
is_balanced (kept.End ∷ ks) (suc n) = is_balanced ks n
is_balanced (kept.Chars text ∷ ks) n = is_balanced ks n
is_balanced (kept.CData text ∷ ks) n = is_balanced ks n
is_balanced (kept.Comment text ∷ ks) n = is_balanced ks n
is_balanced (kept.Pi target text ∷ ks) n = is_balanced ks n
