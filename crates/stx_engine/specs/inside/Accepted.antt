-- Documents whose copies a result accepts.
use Rattle.std.specs.Prelude.{◌≡◌, ◌≢◌, ℕ, ◌-◌, ◌≤◌, Bool, true, ◌&&◌, nat_lt, List}
use Rattle.std.specs.List.{list_all}
use Rattle.stx_base.specs.Course.{Begins}
use Rattle.stx_base.specs.declared.limits.Limits.{Limits}
use Rattle.stx_base.specs.declared.name.Attr.{Attr}
use Rattle.result_writer.specs.Allowed.{are_chars, is_good_attribute, is_good_comment, is_good_data, is_good_name, is_good_target}
use Rattle.result_writer.specs.declared.fault.ResultFault.{ResultFault}
use Rattle.xml_events.specs.Tree.{Leaf, Chars, CData, Comment, Pi, Element, Forest, End, Cut, Single, Nested}
use Rattle.run_parts.specs.Sound.{declares_names}
use Rattle.stx_engine.specs.inside.Run.{output, result_of, run_by, run_on}
use Rattle.stx_engine.specs.inside.Passed.{Refused}
use Rattle.stx_engine.specs.Nesting.{EndsHaveStarts}
use Rattle.sheet_model.specs.declared.pass.Kinds.{Kinds}

abbrev pub is_good_leaf : Leaf → Bool
is_good_leaf (Chars offset text) = are_chars text
is_good_leaf (CData offset text) = are_chars text
is_good_leaf (Comment offset text) = are_chars text && is_good_comment text
is_good_leaf (Pi offset target text) = are_chars text && (is_good_target target && is_good_data text)

abbrev pub is_good_attr : Attr → Bool
is_good_attr a = is_good_attribute a.name && are_chars a.value

abbrev pub is_good_element : Element → Bool
is_good_element e = is_good_name e.name && list_all is_good_attr e.attrs

-- all nodes have names and characters that a result may have, and at most so many elements stand one within another
abbrev pub is_good : (room : ℕ) → Forest → Bool
is_good room (End m offset) = true
is_good room (Cut why) = true
is_good room (Single m leaf next) = is_good_leaf leaf && is_good room next
is_good room (Nested m e kids next) = nat_lt 0 room && (is_good_element e && (is_good (room - 1) kids && is_good room next))

-- No result refuses a part of such a document, where so many of its elements may be open.
abbrev pub TakesGood : Type 0
TakesGood = (limit : ℕ) (pass : Kinds) (tree : Forest) (fault : ResultFault) → is_good limit tree ≡ true → (run_by limit pass tree).ending ≢ Refused fault

-- No end tag in a result of such a document lacks its start tag, wherever the result stops.
abbrev pub RunsNest : Type 0
RunsNest =
    (limit : ℕ) (pass : Kinds) (tree : Forest) (front : List ℕ)
    → declares_names tree ≡ true
    → Begins front (output (run_by limit pass tree).parts)
    → EndsHaveStarts front

-- A result takes all parts of a document, where as many elements of it may be open as of the document.
abbrev pub DocumentsAreTaken : Type 0
DocumentsAreTaken =
    (limits : Limits) (pass : Kinds) (bytes : List ℕ) (ended : Bool) (fault : ResultFault)
    → limits.depth ≤ limits.elements
    → (run_on limits pass bytes ended).ending ≢ Refused fault

-- No end tag in a result lacks its start tag, wherever the result stops.
abbrev pub DocumentsNest : Type 0
DocumentsNest =
    (limits : Limits) (pass : Kinds) (bytes : List ℕ) (ended : Bool) (front : List ℕ)
    → Begins front (result_of (run_on limits pass bytes ended))
    → EndsHaveStarts front
