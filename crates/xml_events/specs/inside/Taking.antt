-- What a place in a document takes.
use Rattle.std.specs.Prelude.{◌≡◌, ◌≤◌, ℕ, Bool, true, List, [], ◌∷◌, ◌++◌, ◌-◌, reverse, length, take, Option, Some, None, if◌then◌else◌}
use Rattle.std.specs.List.{list_all}
use Rattle.stx_base.specs.Character.{is_name}
use Rattle.stx_base.specs.declared.fault.XmlKind.TheVariants.{TextTooLong}
use Rattle.stx_base.specs.declared.fault.XmlKind.{XmlKind}
use Rattle.stx_base.specs.declared.limits.Limits.{Limits}
use Rattle.xml_tokens.specs.declared.lexeme.Body.{Body}
use Rattle.xml_tokens.specs.declared.lexeme.Body.TheVariants as body
use Rattle.xml_names.specs.declared.resolved.NameFault.{NameFault}
use Rattle.xml_names.specs.declared.resolved.NameFault.TheVariants as fault
use Rattle.xml_events.specs.declared.place.Place.{Place}
use Rattle.xml_events.specs.declared.place.Refusal.{Refusal}
use Rattle.xml_events.specs.declared.place.Refusal.TheVariants as refusal
use Rattle.xml_events.specs.declared.place.Word.{Word}
use Rattle.xml_events.specs.declared.place.Word.TheVariants as word
use Rattle.xml_events.specs.Before.{Before, starting, before_next, fault_of, is_too_long, unfit}
use Rattle.xml_events.specs.Document.{Item, Opens, Closes, Says, Stands, element_at, items_of}
use Rattle.xml_events.specs.Tree.{CData, Comment, Pi}

abbrev pub refused : NameFault → Refusal
refused (fault.Xml kind) = refusal.Xml kind
refused fault.Memory = refusal.Memory

-- the names of the open elements, the innermost first
abbrev pub names_of : Place → List (List ℕ)
names_of p = reverse p.names

-- what stands before a lexeme
abbrev pub before_of : Place → Before
before_of p = record { names = names_of p; path = p.scopes; rooted = p.rooted; typed = p.typed; chars = p.chars; cdata = p.cdata }

-- each open element has its declarations, no more are open than may be, and they have Names
pub record IsFit (p : Place) : Type 0 where
  pub paired : length p.scopes ≡ length p.names
  pub depth : length p.names ≤ p.limits.depth
  pub named : list_all is_name p.names ≡ true

-- a place before the first lexeme
pub record StartsAs (limits : Limits) (cdata : Bool) (p : Place) : Type 0 where
  pub limits_are : p.limits ≡ limits
  pub before : before_of p ≡ starting cdata
  pub fit : IsFit p

-- what a word is in the tree, at a place
abbrev pub items_at : (offset : ℕ) → Word → List Item
items_at offset (word.Open tag) = Opens (element_at offset tag) ∷ []
items_at offset (word.Empty tag) = Opens (element_at offset tag) ∷ Closes offset ∷ []
items_at offset word.Close = Closes offset ∷ []
items_at offset (word.Text text) = Says offset text ∷ []
items_at offset (word.CData text) = Stands (CData offset text) ∷ []
items_at offset (word.Comment text) = Stands (Comment offset text) ∷ []
items_at offset (word.Pi target text) = Stands (Pi offset target text) ∷ []
items_at offset word.Nothing = []

-- a lexeme without a fault was taken: what stands before the next one, and what it is in the tree
pub record Took (fault : Option XmlKind) (next : Before) (items : ℕ → List Item) (old new : Place) (word : Word) : Type 0 where
  pub sound : fault ≡ None
  pub before : before_of new ≡ next
  pub items_are : (offset : ℕ) → items_at offset word ≡ items offset
  pub fit : IsFit new

abbrev pub Takes : Place → Body → Place → Word → Type 0
Takes old body new word =
    Took (fault_of old.limits (before_of old) body) (before_next (before_of old) body) (λ offset. items_of (before_of old) offset body) old new word

-- the fault of a lexeme that may stand where it stands
abbrev pub unfit_at : Place → Body → Option XmlKind
unfit_at p x = unfit p.limits (before_of p) x

-- that of a text
abbrev pub text_fault : Place → List ℕ → Option XmlKind
text_fault p text = if is_too_long p.limits (before_of p) text then Some TextTooLong else None

-- such a lexeme was taken
abbrev pub TakesFitting : Place → Body → Place → Word → Type 0
TakesFitting old x new word =
    Took (unfit_at old x) (before_next (before_of old) x) (λ offset. items_of (before_of old) offset x) old new word

-- one element less is open
pub record IsLeft (old new : Place) : Type 0 where
  pub last : List ℕ
  pub names : old.names ≡ new.names ++ last ∷ []
  pub scopes : new.scopes ≡ take (length old.scopes - 1) old.scopes
  pub others : new ≡ record old { names = new.names; scopes = new.scopes }

-- the end tag of the innermost open element was taken
abbrev pub IsClosed : (old new : Place) → Type 0
IsClosed old new = Took None (before_next (before_of old) (body.End [])) (λ offset. Closes offset ∷ []) old new word.Close

-- a lexeme has a fault, and as many elements are open as before; want of memory is free
abbrev pub Refuses : Option XmlKind → (old new : Place) → Refusal → Type 0
Refuses fault old new (refusal.Xml kind) = (fault ≡ Some kind) × (names_of new ≡ names_of old)
Refuses fault old new refusal.Memory = Unit {0}
