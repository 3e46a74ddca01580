-- The newest copy of a buffer is opened, and its nodes are processed.
use Rattle.std.proofs.Common.{◌≡◌, ℕ, zero, suc, ◌<◌, List, [], ◌∷◌, ◌++◌, length, map, All, Some, None, refl, ap, sym, subst, ◌∙◌, arith}
use Rattle.std.specs.List.{slice_get}
use Rattle.std.specs.Prelude.{unwrap_or}
use Rattle.std.proofs.lemmas.List.Elements.{All-head, All-tail}
use Rattle.event_buffers.specs.Buffers.{Buffer, Buffers, busy_at, none, on_buffer, on_newest}
use Rattle.event_buffers.specs.Layer.{Layer, opened_read}
use Rattle.event_buffers.specs.declared.kept.Kept.{Kept}
use Rattle.frame_stack.specs.Stack.{with_frames}
use Rattle.frame_stack.specs.declared.frame.Frame.TheVariants as frame
use Rattle.stx_base.specs.declared.fault.Place.{Place}
use Rattle.template_machine.specs.Deep.{AreDeep, IsDeep, IsDeepBuffer}
use Rattle.template_machine.specs.Puts.{NewestIsFree}
use Rattle.template_machine.specs.Standing.{shelf_at, shelf_of}
use Rattle.template_machine.specs.Well.{IsSteady, IsWell}
use Rattle.template_machine.specs.Working.{Awaits, EntersSource, HasBuffer}
use Rattle.template_machine.specs.declared.program.Link.{Link}
use Rattle.template_machine.specs.declared.program.Program.{Program}
use Rattle.template_machine.specs.declared.putting.Putting.{Putting}
use Rattle.template_machine.specs.declared.run.Doing.TheVariants as doing
use Rattle.template_machine.specs.declared.run.Run.{Run}
use Rattle.template_machine.specs.declared.source.Origin.TheVariants as origin
use Rattle.template_machine.proofs.Deepened.{told_within}
use Rattle.template_machine.proofs.Holds.{read_opened}
use Rattle.template_machine.proofs.Reading.{held_newest, opened_reads}
use Rattle.template_machine.proofs.Shelved.{shelf_free}
use Rattle.template_machine.proofs.Within.{buffer_on}
use Rattle.template_machine.proofs.Writing.{copies_there}

-- What it holds is as deep as it may be.

newest_by : (limit : ℕ) (declared : List Kept) (cs : List Layer) → All (IsDeep limit declared) cs → AreDeep limit 0 (held_newest declared cs)
newest_by limit declared [] all = tt
newest_by limit declared (c ∷ cs) all = (All-head (IsDeep limit declared) c cs all).deep

newest_deep : (limit : ℕ) (bs : List Buffer) (id : ℕ) → All (IsDeepBuffer limit) bs
    → AreDeep limit 0 (held_newest (unwrap_or (slice_get bs id) none).declared (unwrap_or (slice_get bs id) none).copies)
newest_deep limit [] id all = tt
newest_deep limit (b ∷ bs) zero all = newest_by limit b.declared b.copies (All-head (IsDeepBuffer limit) b bs all).copies
newest_deep limit (b ∷ bs) (suc id) all = newest_deep limit bs id (All-tail (IsDeepBuffer limit) b bs all)

-- Behind the calls that open it and push its frame.
pub buffer_then : (p : Program) (r t u : Run) (asked body id : ℕ) (at : Place) (b : Buffers) → Awaits p r asked body → id < length r.putting.buffers.buffers
    → b ≡ on_buffer (on_newest opened_read) id r.putting.buffers → busy_at r.putting.buffers id ≡ None
    → t ≡ record r { putting = record r.putting { buffers = b }; frames = with_frames (r.frames.frames ++ frame.Source (Some id) 0 asked ∷ []) r.frames }
    → EntersSource p.buffer_depth (origin.Buffer id at) t u → IsWell p (record u { doing = doing.List })
buffer_then p r t u asked body id at b h there opened idle pushed enters =
    let a = r.putting.buffers in
    let x : Buffers = on_buffer (on_newest opened_read) id a in
    let new : Putting = record r.putting { buffers = x } in
    let free : NewestIsFree (shelf_at (map shelf_of a.buffers) id).copies = shelf_free a.buffers id (copies_there a.buffers id there h.waits.steady.shelved) idle in
    let reads = opened_reads a.buffers id free in
    let deep = h.waits.steady.deep in
    let held : AreDeep p.buffer_depth 0 reads.0.held = subst (AreDeep p.buffer_depth 0) (sym reads.1) (newest_deep p.buffer_depth a.buffers id deep.1) in
    buffer_on p r t u asked id at new h.waits h.pc refl reads.0 (told_within p.buffer_depth 0 reads.0.held (omega arith) held)
    (read_opened a x id refl idle)
    (pushed
    ∙ ap (λ (y : Buffers). record r { putting = record r.putting { buffers = y }; frames = with_frames (r.frames.frames ++ frame.Source (Some id) 0 asked ∷ []) r.frames }) opened)
    enters

one_link : {a b : Link} → Some a ≡ Some b → a ≡ b
one_link e = cc

-- the buffer that it names is there
pub buffer_less : (p : Program) (r : Run) (n : ℕ) (l : Link) → IsSteady p r → HasBuffer p n → slice_get p.links n ≡ Some l → l.named < length r.putting.buffers.buffers
buffer_less p r n l steady h is =
    let less : l.named < length p.sheet.buffers = subst (λ (x : Link). x.named < length p.sheet.buffers) (one_link (sym h.1.0 ∙ is)) h.1.1 in
    omega (arith, less, steady.buffers)
