-- Another document, a buffer or attributes are processed, and are over.
use Rattle.std.proofs.Common.{◌≡◌, ℕ, suc, true, List, ◌∷◌, Option, Some, None, IsSome, refl, ap, subst}
use Rattle.std.proofs.lemmas.Bool.{false≢true}
use Rattle.stx_base.specs.declared.fault.Place.{Place}
use Rattle.frame_stack.specs.declared.frame.Frame.{Frame}
use Rattle.frame_stack.specs.declared.frame.Frame.TheVariants.{Attributes, Source}
use Rattle.node_stack.specs.Path.{Document, can_have_children}
use Rattle.template_machine.specs.Bodies.{level_in, pc_in}
use Rattle.template_machine.specs.Contexts.{Station}
use Rattle.template_machine.specs.Standing.{Known, Outer, Standing, Stream, Unknown, source_over}
use Rattle.template_machine.specs.Ways.{Way, here, lists_on}
use Rattle.template_machine.specs.Well.{AreWell, BodyWaits, IsSettled, ListGoesOn, OnOuter}
use Rattle.template_machine.specs.declared.program.Program.{Program}
use Rattle.template_machine.specs.declared.source.Origin.TheVariants as origin
use Rattle.template_machine.proofs.Children.{asks_before}

-- a source within the one that was the innermost, of whose list this is known
abbrev pub within_source : Stream → Known → Standing → Standing
within_source new known s = record s { source = new; around = record { source = s.source; known = known } ∷ s.around }

module _ (p : Program) (stations : List Station) where
  -- Another document begins.
  pub document_opens : (fs : List Frame) (s : Standing) (asked : ℕ) (known : Known) (at : Place) (w : Way) → BodyWaits p stations fs s known
      → pc_in fs ≡ Some (suc asked) → here w ≡ Some Document → lists_on w ≡ 1
      → ListGoesOn p stations (Source None 0 asked ∷ fs) (within_source (record { origin = origin.Document at; way = w }) known s) (record { front = Unknown; begun = 1 })
  document_opens fs s asked known at w b there is none = record {
    well = (refl, b.body, asks_before fs asked there, tt, is, (b.fits, b.well));
    fits = (ap can_have_children is, (λ some. absurd (false≢true some)), none);
  }

  -- The innermost source is over.
  pub source_ends : (fs : List Frame) (s : Standing) (buffer : Option ℕ) (next asked : ℕ) (o : Outer) (others : List Outer)
      → AreWell p stations 0 true (Source buffer next asked ∷ fs) s → s.around ≡ o ∷ others
      → BodyWaits p stations fs (source_over buffer o.source others s) o.known
  source_ends fs s buffer next asked o others w is =
      let h = subst
      (λ l. OnOuter l (λ outer others. IsSettled fs outer.source.way outer.known.begun outer.known.front × AreWell p stations 0 true fs (source_over buffer outer.source others s))) is w.5 in
      record { body = w.1; well = h.1; fits = h.0 }

  -- Attributes are over.
  pub attributes_end : (fs : List Frame) (s : Standing) (next asked : ℕ) (known : Known) → IsSome (level_in fs) → ListGoesOn p stations (Attributes next asked ∷ fs) s known
      → BodyWaits p stations fs s known
  attributes_end fs s next asked known some l = record { body = some; well = l.well.3; fits = l.fits.1 }
