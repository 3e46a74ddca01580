-- What laws of the definitions say.
use Rattle.std.specs.Prelude.{◌≡◌, ℕ, true, List, count_by, encode_utf8_all, length, slice_get}
use Rattle.std.specs.Str.{bytes_eq, chars}
use Rattle.stx_base.specs.declared.node.NodeTest.{NodeTest}
use Rattle.node_stack.specs.Counts.{capped, counted_all, distinct, none}
use Rattle.node_stack.specs.Listed.{Call, all_done, all_done_listed, counted_listed, listed_position, listed_start, start}
use Rattle.node_stack.specs.Path.{is_told, position}
use Rattle.node_stack.specs.Test.{Kind, passes, same}

-- What is counted of a list is how many of its nodes pass each test, but no more than positions tell.
abbrev pub CountsPassing : Type 0
CountsPassing = (xs : List Kind) (t : NodeTest) → (counted_all none xs).passing t ≡ capped (count_by (passes t) xs)

-- The names that are counted are the distinct names and targets of a list, however long it is.
abbrev pub CountsNames : Type 0
CountsNames = (xs : List Kind) → (counted_all none xs).names ≡ length (distinct xs)

-- Texts are the same where their characters are; of characters UTF-8 spells no others.
abbrev pub ComparesTexts : Type 0
ComparesTexts = (a b : List ℕ) → chars (encode_utf8_all a) ≡ a → chars (encode_utf8_all b) ≡ b → same a b ≡ bytes_eq a b

-- After any list of calls, what is kept is what is counted of the lists of all nodes.
abbrev pub CountsLists : Type 0
CountsLists = (calls : List Call) (limit : ℕ) → all_done calls (start limit) ≡ counted_listed limit (all_done_listed calls listed_start)

-- After any list of calls, a position is one plus the number of earlier nodes of the list that pass, but never more than
-- 2^63 - 1. A node that waited is asked for tests that it passes.
abbrev pub TellsPositions : Type 0
TellsPositions = (calls : List Call) (limit place : ℕ) (t : NodeTest)
    → is_told (all_done calls (start limit)).path place t ≡ true
    → position (all_done calls (start limit)).path place t ≡ listed_position t (slice_get (all_done_listed calls listed_start).nodes place)
