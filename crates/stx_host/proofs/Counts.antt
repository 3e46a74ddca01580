-- How the counts of faults go on.
use Rattle.std.proofs.Common.{◌≡◌, ℕ, List, ap, sym, subst, ◌∙◌, refl, arith, inl, inr}
use Rattle.std.proofs.lemmas.Bool.{cases_eq}
use Rattle.stx_host.specs.declared.act.Got.TheVariants.{Bytes, End, Failed as Unread}
use Rattle.stx_host.specs.declared.act.Lane.{Lane}
use Rattle.stx_host.specs.declared.act.Lane.TheVariants.{Out, Note}
use Rattle.stx_host.specs.declared.act.Opened.TheVariants.{Id, Absent, Failed, Memory}
use Rattle.stx_host.specs.declared.act.Put.TheVariants.{Took, Failed as Unwritten}
use Rattle.stx_host.specs.Outside.{Outside, Raises, DocFault, MainFault, OutFault, NoteFault, wrote}
use Rattle.stx_host.specs.Laws.{Later, CountsLater, CountsJoin, CountsAtOpen, CountsAtRead, CountsAtClose, CountsAtWrite, RoseAndLater, LaterAndRose}

later_joins : (a b c : ℕ) → Later a b → Later b c → Later a c
later_joins a b c first second = (
  omega arith,
  elim second.1 [
    | inl e ↦ elim first.1 [ inl f ↦ inl (e ∙ f) | inr h ↦ inr (omega arith) ]
    | inr h ↦ inr h
  ],
)

same : (a b : ℕ) → b ≡ a → Later a b
same a b e = (omega arith, inl e)

raised : (a b : ℕ) → Raises a b → Later a b
raised a b raises = (raises.no_fall, inr raises.is_u64)

pub counts_join : CountsJoin
counts_join a b c first second = record {
  doc = later_joins a.doc_faults b.doc_faults c.doc_faults first.doc second.doc;
  main = later_joins a.main_faults b.main_faults c.main_faults first.main second.main;
  out = later_joins a.out_faults b.out_faults c.out_faults first.out second.out;
  note = later_joins a.note_faults b.note_faults c.note_faults first.note second.note;
}

four : (old new : Outside) → new.doc_faults ≡ old.doc_faults → new.main_faults ≡ old.main_faults → new.out_faults ≡ old.out_faults → new.note_faults ≡ old.note_faults → CountsLater old new
four old new d m o n = record {
  doc = same old.doc_faults new.doc_faults d;
  main = same old.main_faults new.main_faults m;
  out = same old.out_faults new.out_faults o;
  note = same old.note_faults new.note_faults n;
}

-- where all but the counts may be other
as_in : (old new after : Outside) → new ≡ after → after.doc_faults ≡ old.doc_faults → after.main_faults ≡ old.main_faults → after.out_faults ≡ old.out_faults → after.note_faults ≡ old.note_faults → CountsLater old new
as_in old new after e d m o n = subst (λ x. CountsLater old x) (sym e) (four old after d m o n)

pub counts_at_doc_fault : (old new : Outside) → DocFault old new → CountsLater old new
counts_at_doc_fault old new fault = record {
  doc = raised old.doc_faults new.doc_faults fault.count;
  main = same old.main_faults new.main_faults (ap (λ o. o.main_faults) fault.alone);
  out = same old.out_faults new.out_faults (ap (λ o. o.out_faults) fault.alone);
  note = same old.note_faults new.note_faults (ap (λ o. o.note_faults) fault.alone);
}

pub counts_at_main_fault : (old new : Outside) → MainFault old new → CountsLater old new
counts_at_main_fault old new fault = record {
  doc = same old.doc_faults new.doc_faults (ap (λ o. o.doc_faults) fault.alone);
  main = raised old.main_faults new.main_faults fault.count;
  out = same old.out_faults new.out_faults (ap (λ o. o.out_faults) fault.alone);
  note = same old.note_faults new.note_faults (ap (λ o. o.note_faults) fault.alone);
}

pub counts_at_out_fault : (old new : Outside) → OutFault old new → CountsLater old new
counts_at_out_fault old new fault = record {
  doc = same old.doc_faults new.doc_faults (ap (λ o. o.doc_faults) fault.alone);
  main = same old.main_faults new.main_faults (ap (λ o. o.main_faults) fault.alone);
  out = raised old.out_faults new.out_faults fault.count;
  note = same old.note_faults new.note_faults (ap (λ o. o.note_faults) fault.alone);
}

pub counts_at_note_fault : (old new : Outside) → NoteFault old new → CountsLater old new
counts_at_note_fault old new fault = record {
  doc = same old.doc_faults new.doc_faults (ap (λ o. o.doc_faults) fault.alone);
  main = same old.main_faults new.main_faults (ap (λ o. o.main_faults) fault.alone);
  out = same old.out_faults new.out_faults (ap (λ o. o.out_faults) fault.alone);
  note = raised old.note_faults new.note_faults fault.count;
}

counts_of : (old new : Outside) → (new.doc_faults ≡ old.doc_faults) × (new.main_faults ≡ old.main_faults) × (new.out_faults ≡ old.out_faults) × (new.note_faults ≡ old.note_faults) → CountsLater old new
counts_of old new e = four old new e.0 e.1 e.2 e.3

pub counts_at_open : CountsAtOpen
counts_at_open old new name (Id id) e = counts_of old new (ap (λ o. o.doc_faults) e, ap (λ o. o.main_faults) e, ap (λ o. o.out_faults) e, ap (λ o. o.note_faults) e)
counts_at_open old new name Absent e = counts_of old new (ap (λ o. o.doc_faults) e, ap (λ o. o.main_faults) e, ap (λ o. o.out_faults) e, ap (λ o. o.note_faults) e)
counts_at_open old new name Failed fault = counts_at_doc_fault old new fault
counts_at_open old new name Memory e = counts_of old new (ap (λ o. o.doc_faults) e, ap (λ o. o.main_faults) e, ap (λ o. o.out_faults) e, ap (λ o. o.note_faults) e)

pub counts_at_read : CountsAtRead
counts_at_read old new id (Bytes n) e = counts_of old new (ap (λ o. o.doc_faults) e, ap (λ o. o.main_faults) e, ap (λ o. o.out_faults) e, ap (λ o. o.note_faults) e)
counts_at_read old new id End e = counts_of old new (ap (λ o. o.doc_faults) e, ap (λ o. o.main_faults) e, ap (λ o. o.out_faults) e, ap (λ o. o.note_faults) e)
counts_at_read old new id Unread fault = elim (cases_eq id 0) [
  | inl e ↦ counts_at_main_fault old new (fault.main e)
  | inr h ↦ counts_at_doc_fault old new (fault.doc (omega arith))
]

pub counts_at_close : CountsAtClose
counts_at_close old new id change = elim change [
  | inl e ↦ counts_of old new (ap (λ o. o.doc_faults) e, ap (λ o. o.main_faults) e, ap (λ o. o.out_faults) e, ap (λ o. o.note_faults) e)
  | inr e ↦ counts_of old new (ap (λ o. o.doc_faults) e, ap (λ o. o.main_faults) e, ap (λ o. o.out_faults) e, ap (λ o. o.note_faults) e)
]

pub counts_at_write : CountsAtWrite
counts_at_write old new Out bytes (Took n) e = counts_of old new (ap (λ o. o.doc_faults) e, ap (λ o. o.main_faults) e, ap (λ o. o.out_faults) e, ap (λ o. o.note_faults) e)
counts_at_write old new Note bytes (Took n) e = counts_of old new (ap (λ o. o.doc_faults) e, ap (λ o. o.main_faults) e, ap (λ o. o.out_faults) e, ap (λ o. o.note_faults) e)
counts_at_write old new Out bytes Unwritten fault = counts_at_out_fault old new fault
counts_at_write old new Note bytes Unwritten fault = counts_at_note_fault old new fault

pub rose_and_later : RoseAndLater
rose_and_later a b c rose later = elim rose [
  | inl h ↦ inl (omega (arith, later.0))
  | inr e ↦ elim later.1 [ inl f ↦ inr (f ∙ e) | inr h ↦ inr (omega (arith, later.0)) ]
]

pub later_and_rose : LaterAndRose
later_and_rose a b c later rose = elim rose [ inl h ↦ inl (omega (arith, later.0)) | inr e ↦ inr e ]

pub counts_at_wrote : (old : Outside) (lane : Lane) (lens bytes : List ℕ) → CountsLater old (wrote old lane lens bytes)
counts_at_wrote old Out lens bytes = four old (wrote old Out lens bytes) refl refl refl refl
counts_at_wrote old Note lens bytes = four old (wrote old Note lens bytes) refl refl refl refl
