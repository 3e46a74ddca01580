-- A tree as the tags, texts and other leaves that it is made of (XML 1.0, 2.1 and 3.1).
use Rattle.std.specs.Prelude.{◌≡◌, ◌≢◌, ℕ, Bool, true, false, ◌&&◌, List, [], ◌∷◌, ◌++◌, Option, Some, None}
use Rattle.xml_events.specs.Document.{Item, Opens, Closes, Says, Stands}
use Rattle.xml_events.specs.Tree.{Why, Fresh, Waiting, Leaf, Chars, CData, Comment, Pi, Forest, End, Cut, Single, Nested, Future}

-- the list ends, and each list in it
abbrev pub is_closed : Forest → Bool
is_closed (End m offset) = true
is_closed (Cut why) = false
is_closed (Single m leaf next) = is_closed next
is_closed (Nested m e kids next) = is_closed kids && is_closed next

-- a leaf as an item
abbrev pub item_of : Leaf → Item
item_of (Chars offset text) = Says offset text
item_of (CData offset text) = Stands (CData offset text)
item_of (Comment offset text) = Stands (Comment offset text)
item_of (Pi offset target text) = Stands (Pi offset target text)

-- A list as items: an element is its start and then its list, which has its end where it isn't cut.
abbrev pub flatten : Forest → List Item
flatten (End m offset) = Closes offset ∷ []
flatten (Cut why) = []
flatten (Single m leaf next) = item_of leaf ∷ flatten next
flatten (Nested m e kids next) = Opens e ∷ (flatten kids ++ flatten next)

-- a text before items: an empty one is none, nor is one that nothing follows, and it joins a text that follows it
abbrev pub said_before : (offset : ℕ) → List ℕ → List Item → List Item
said_before offset text [] = []
said_before offset text (Says later more ∷ is) = Says offset (text ++ more) ∷ is
said_before offset [] (i ∷ is) = i ∷ is
said_before offset (c ∷ cs) (i ∷ is) = Says offset (c ∷ cs) ∷ i ∷ is

-- items of which no texts touch, none is empty, and none is the last
abbrev pub joined : List Item → List Item
joined [] = []
joined (Says offset text ∷ is) = said_before offset text (joined is)
joined (Opens e ∷ is) = Opens e ∷ joined is
joined (Closes offset ∷ is) = Closes offset ∷ joined is
joined (Stands leaf ∷ is) = Stands leaf ∷ joined is

-- a list that may follow a text: it has another node first, or ends
abbrev pub IsAfterText : Forest → Type 0
IsAfterText (End m offset) = Unit {0}
IsAfterText (Cut why) = ⊥
IsAfterText (Single m (Chars offset text) next) = ⊥
IsAfterText (Single m (CData offset text) next) = Unit {0}
IsAfterText (Single m (Comment offset text) next) = Unit {0}
IsAfterText (Single m (Pi offset target text) next) = Unit {0}
IsAfterText (Nested m e kids next) = Unit {0}

abbrev pub IsCut : Forest → Type 0
IsCut (End m offset) = ⊥
IsCut (Cut why) = Unit {0}
IsCut (Single m leaf next) = ⊥
IsCut (Nested m e kids next) = ⊥

-- each cut is for this reason, nothing is marked, no text is empty, no two texts touch, no text stands before a cut, and an
-- open element is the last node of its list, which is cut behind it
abbrev pub IsProper : Option Why → Forest → Type 0
IsProper why (End m offset) = m ≡ Fresh
IsProper why (Cut w) = Some w ≡ why
IsProper why (Single m (Chars offset text) next) = (m ≡ Fresh) × (text ≢ []) × IsAfterText next × IsProper why next
IsProper why (Single m (CData offset text) next) = (m ≡ Fresh) × IsProper why next
IsProper why (Single m (Comment offset text) next) = (m ≡ Fresh) × IsProper why next
IsProper why (Single m (Pi offset target text) next) = (m ≡ Fresh) × IsProper why next
IsProper why (Nested m e kids next) = (m ≡ Waiting) × IsProper why kids × IsProper why next × (is_closed kids ≡ false → IsCut next)

abbrev pub is_whole : Option Why → Bool
is_whole None = true
is_whole (Some why) = false

-- the tree of a document that goes no further for this reason, or is whole
abbrev pub IsCutTree : Option Why → Forest → Type 0
IsCutTree why x = IsProper why x × (is_closed x ≡ is_whole why)

-- why the lists behind what was read go no further, if some are open
abbrev pub cut_by : Future → Option Why
cut_by [] = None
cut_by (End m offset ∷ lists) = None
cut_by (Cut why ∷ lists) = Some why
cut_by (Single m leaf next ∷ lists) = None
cut_by (Nested m e kids next ∷ lists) = None
