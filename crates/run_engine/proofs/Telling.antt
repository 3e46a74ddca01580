-- What an event leaves of what is to come.
use Rattle.std.proofs.Common.{◌≡◌, ◌≤◌, ◌<◌, ◌+◌, ℕ, List, [], ◌∷◌, length, refl, arith}
use Rattle.xml_events.specs.Answering.{lists_behind}
use Rattle.xml_events.specs.Telling.{followed, pulled}
use Rattle.xml_events.specs.Tree.{Need, Bad, Chars, CData, Comment, Pi, End, Cut, Single, Nested, Future}
use Rattle.xml_events.specs.declared.event.Event.{Event}
use Rattle.xml_events.specs.declared.event.Event.TheVariants as event
use Rattle.xml_events.specs.declared.event.Pull.TheVariants as pull
use Rattle.template_machine.specs.Between.{EndsInnermost, HasRoom, TellsText, behind}
use Rattle.run_engine.specs.Fitting.{Fits}

-- what follows an event that fits, fits
pub told-fits : (d : ℕ) (e : Event) (f : Future) → length f ≡ lists_behind e (length (followed e f)) → Fits d (followed e f) → Fits d f
told-fits d (event.Start offset name attrs decls first) [] l h = tt
told-fits d (event.Start offset name attrs decls first) (x ∷ []) l h = absurd (omega (arith, l))
told-fits d (event.Start offset name attrs decls first) (x ∷ y ∷ zs) l h = (omega (arith, h.1.0), h.1.1, (h.0, h.1.2, h.2))
told-fits d (event.End offset) f l h = h.2
told-fits d (event.DocumentEnd offset) f l h = h.2
told-fits d (event.Chars offset text) [] l h = tt
told-fits d (event.Chars offset text) (x ∷ zs) l h = (h.0, h.1.1, h.2)
told-fits d (event.CData offset text) [] l h = tt
told-fits d (event.CData offset text) (x ∷ zs) l h = (h.0, h.1.1, h.2)
told-fits d (event.Comment offset text) [] l h = tt
told-fits d (event.Comment offset text) (x ∷ zs) l h = (h.0, h.1.1, h.2)
told-fits d (event.Pi offset target text) [] l h = tt
told-fits d (event.Pi offset target text) (x ∷ zs) l h = (h.0, h.1.1, h.2)

-- the text of a CDATA section that is told may be one
pub told-text : (d : ℕ) (e : Event) (f : Future) → Fits d (followed e f) → TellsText e
told-text d (event.Start offset name attrs decls first) f h = tt
told-text d (event.End offset) f h = tt
told-text d (event.DocumentEnd offset) f h = tt
told-text d (event.Chars offset text) f h = tt
told-text d (event.CData offset text) f h = h.1.0
told-text d (event.Comment offset text) f h = tt
told-text d (event.Pi offset target text) f h = tt

-- no more lists are open than may be
pub fits-few : (d : ℕ) (f : Future) → Fits d f → length f ≤ d + 1
fits-few d [] h = omega arith
fits-few d (x ∷ xs) h = omega (arith, h.0)

-- nor behind an event of the newest document
pub told-room : (d : ℕ) (e : Event) (f : Future) (n : ℕ) (ns : List ℕ) → n ≡ length (followed e f) → Fits d (followed e f) → HasRoom d ns → HasRoom d (behind e (n ∷ ns))
told-room d (event.Start offset name attrs decls first) f n ns is h o = omega (arith, is, h.1.0)
told-room d (event.End offset) f n ns is h o = omega (arith, is, fits-few d (followed (event.End offset) f) h)
told-room d (event.DocumentEnd offset) f n ns is h o = o
told-room d (event.Chars offset text) f n ns is h o = omega (arith, is, fits-few d (followed (event.Chars offset text) f) h)
told-room d (event.CData offset text) f n ns is h o = omega (arith, is, fits-few d (followed (event.CData offset text) f) h)
told-room d (event.Comment offset text) f n ns is h o = omega (arith, is, fits-few d (followed (event.Comment offset text) f) h)
told-room d (event.Pi offset target text) f n ns is h o = omega (arith, is, fits-few d (followed (event.Pi offset target text) f) h)

-- the document's end is told where no other list is open
end-alone : (f : Future) (offset : ℕ) → pulled f ≡ pull.Event (event.DocumentEnd offset) → length f ≡ 1
end-alone [] offset h = absurd cc
end-alone (End mark at ∷ []) offset h = refl
end-alone (End mark at ∷ list ∷ lists) offset h = absurd cc
end-alone (Cut Need ∷ lists) offset h = absurd cc
end-alone (Cut (Bad fault) ∷ lists) offset h = absurd cc
end-alone (Single mark (Chars at text) next ∷ lists) offset h = absurd cc
end-alone (Single mark (CData at text) next ∷ lists) offset h = absurd cc
end-alone (Single mark (Comment at text) next ∷ lists) offset h = absurd cc
end-alone (Single mark (Pi at target text) next ∷ lists) offset h = absurd cc
end-alone (Nested mark e (Cut Need) next ∷ lists) offset h = absurd cc
end-alone (Nested mark e (Cut (Bad fault)) next ∷ lists) offset h = absurd cc
end-alone (Nested mark e (End m at) next ∷ lists) offset h = absurd cc
end-alone (Nested mark e (Single m leaf more) next ∷ lists) offset h = absurd cc
end-alone (Nested mark e (Nested m f kids more) next ∷ lists) offset h = absurd cc

-- an end of another list is told where a list is open around it
end-within : (f : Future) (offset : ℕ) → pulled f ≡ pull.Event (event.End offset) → 1 < length f
end-within [] offset h = absurd cc
end-within (End mark at ∷ []) offset h = absurd cc
end-within (End mark at ∷ list ∷ lists) offset h = omega arith
end-within (Cut Need ∷ lists) offset h = absurd cc
end-within (Cut (Bad fault) ∷ lists) offset h = absurd cc
end-within (Single mark (Chars at text) next ∷ lists) offset h = absurd cc
end-within (Single mark (CData at text) next ∷ lists) offset h = absurd cc
end-within (Single mark (Comment at text) next ∷ lists) offset h = absurd cc
end-within (Single mark (Pi at target text) next ∷ lists) offset h = absurd cc
end-within (Nested mark e (Cut Need) next ∷ lists) offset h = absurd cc
end-within (Nested mark e (Cut (Bad fault)) next ∷ lists) offset h = absurd cc
end-within (Nested mark e (End m at) next ∷ lists) offset h = absurd cc
end-within (Nested mark e (Single m leaf more) next ∷ lists) offset h = absurd cc
end-within (Nested mark e (Nested m f kids more) next ∷ lists) offset h = absurd cc

-- so an end is told of the innermost list
pub told-ends : (e : Event) (f : Future) (ns : List ℕ) → pulled f ≡ pull.Event e → EndsInnermost e (length f ∷ ns)
told-ends (event.Start offset name attrs decls first) f ns h = tt
told-ends (event.End offset) f ns h = end-within f offset h
told-ends (event.DocumentEnd offset) f ns h = end-alone f offset h
told-ends (event.Chars offset text) f ns h = tt
told-ends (event.CData offset text) f ns h = tt
told-ends (event.Comment offset text) f ns h = tt
told-ends (event.Pi offset target text) f ns h = tt
