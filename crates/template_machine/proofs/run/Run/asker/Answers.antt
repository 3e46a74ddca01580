use Rattle.std.proofs.Common.{◌∙◌, ◌∷◌, reverse, refl, ap, sym, subst}
use Rattle.std.specs.Option.{option_copied}
use Rattle.frame_stack.specs.declared.frame.Frame.{Frame}
use Rattle.frame_stack.specs.declared.frame.Frame.TheVariants.{Body, Call, Attributes, Loop, Region, Source, Skip, Pass}
use Rattle.template_machine.specs.Asking.{HasAsker, IsBodyAsking, IsPassing, WaitsFor, asking}
use Rattle.template_machine.proofs.Asking.{asker_from}
use Rattle.template_machine.proofs.Tops.{no_top, top_below, top_frame}
use Rattle.template_machine.proofs.run.Run.asker.Goals as goal

pub top_asks-requires : goal.top_asks-requires
top_asks-requires c =
    let p = c.args.program.now in
    let xs = c.args.self.now.frames.frames in
    let t = top_frame xs c.in-Some-Region.field-0.now (sym c.top.ensures ∙ ap option_copied c.in-Some-Region.is) in
    let f = Region c.in-Some-Region.asked c.in-Some-Region.field-0-1 in
    let is = t.1 ∙ ap (λ (x : Frame). x ∷ t.0) c.in-Some-Region.field-0-is in
    let h = subst (HasAsker p) is c.requires in
    subst (WaitsFor c.in-Some-Region.asked) (sym (top_below xs f t.0 is)) h.1

pub top_asks-requires-in-Some-Attributes : goal.top_asks-requires-in-Some-Attributes
top_asks-requires-in-Some-Attributes c =
    let p = c.args.program.now in
    let xs = c.args.self.now.frames.frames in
    let t = top_frame xs c.in-Some-Attributes.field-0.now (sym c.top.ensures ∙ ap option_copied c.in-Some-Attributes.is) in
    let f = Attributes c.in-Some-Attributes.field-0-0 c.in-Some-Attributes.asked in
    let is = t.1 ∙ ap (λ (x : Frame). x ∷ t.0) c.in-Some-Attributes.field-0-is in
    let h = subst (HasAsker p) is c.requires in
    subst (WaitsFor c.in-Some-Attributes.asked) (sym (top_below xs f t.0 is)) h.1

pub top_asks-requires-in-Some-Source : goal.top_asks-requires-in-Some-Source
top_asks-requires-in-Some-Source c =
    let p = c.args.program.now in
    let xs = c.args.self.now.frames.frames in
    let t = top_frame xs c.in-Some-Source.field-0.now (sym c.top.ensures ∙ ap option_copied c.in-Some-Source.is) in
    let f = Source c.in-Some-Source.field-0-0 c.in-Some-Source.field-0-1 c.in-Some-Source.asked in
    let is = t.1 ∙ ap (λ (x : Frame). x ∷ t.0) c.in-Some-Source.field-0-is in
    let h = subst (HasAsker p) is c.requires in
    subst (WaitsFor c.in-Some-Source.asked) (sym (top_below xs f t.0 is)) h.1

pub body_asks-requires : goal.body_asks-requires
body_asks-requires c =
    let p = c.args.program.now in
    let xs = c.args.self.now.frames.frames in
    let t = top_frame xs c.in-Some-Body.field-0.now (sym c.top.ensures ∙ ap option_copied c.in-Some-Body.is) in
    let f = Body c.in-Some-Body.field-0-0 c.in-Some-Body.field-0-1 c.in-Some-Body.field-0-2 c.in-Some-Body.field-0-3 c.in-Some-Body.field-0-4 c.in-Some-Body.field-0-5 in
    let is = t.1 ∙ ap (λ (x : Frame). x ∷ t.0) c.in-Some-Body.field-0-is in
    let h = subst (HasAsker p) is c.requires in
    (h.0, subst (WaitsFor h.0) (sym is) h.1.1)

pub body_asks-requires-in-Some-Call : goal.body_asks-requires-in-Some-Call
body_asks-requires-in-Some-Call c =
    let p = c.args.program.now in
    let xs = c.args.self.now.frames.frames in
    let t = top_frame xs c.in-Some-Call.field-0.now (sym c.top.ensures ∙ ap option_copied c.in-Some-Call.is) in
    let f = Call c.in-Some-Call.field-0-0 c.in-Some-Call.field-0-1 c.in-Some-Call.field-0-2 c.in-Some-Call.field-0-3 in
    let is = t.1 ∙ ap (λ (x : Frame). x ∷ t.0) c.in-Some-Call.field-0-is in
    let h = subst (HasAsker p) is c.requires in
    (h.0, subst (WaitsFor h.0) (sym is) h.1.1)

pub body_asks-requires-in-Some-Loop : goal.body_asks-requires-in-Some-Loop
body_asks-requires-in-Some-Loop c =
    let p = c.args.program.now in
    let xs = c.args.self.now.frames.frames in
    let t = top_frame xs c.in-Some-Loop.field-0.now (sym c.top.ensures ∙ ap option_copied c.in-Some-Loop.is) in
    let f = Loop c.in-Some-Loop.field-0-0 in
    let is = t.1 ∙ ap (λ (x : Frame). x ∷ t.0) c.in-Some-Loop.field-0-is in
    let h = subst (HasAsker p) is c.requires in
    (h.0, subst (WaitsFor h.0) (sym is) h.1.1)

pub unreachable-requires : goal.unreachable-requires
unreachable-requires c =
    let p = c.args.program.now in
    let xs = c.args.self.now.frames.frames in
    let t = top_frame xs c.in-Some-Skip.field-0.now (sym c.top.ensures ∙ ap option_copied c.in-Some-Skip.is) in
    let f = Skip c.in-Some-Skip.field-0-0 in
    let is = t.1 ∙ ap (λ (x : Frame). x ∷ t.0) c.in-Some-Skip.field-0-is in
    let h = subst (HasAsker p) is c.requires in
    h

pub returns-in-Some-Pass : goal.returns-in-Some-Pass
returns-in-Some-Pass c =
    let p = c.args.program.now in
    let xs = c.args.self.now.frames.frames in
    let t = top_frame xs c.in-Some-Pass.field-0.now (sym c.top.ensures ∙ ap option_copied c.in-Some-Pass.is) in
    let f = Pass c.in-Some-Pass.base c.in-Some-Pass.field-0-1 c.in-Some-Pass.field-0-2 in
    let is = t.1 ∙ ap (λ (x : Frame). x ∷ t.0) c.in-Some-Pass.field-0-is in
    let h = subst (HasAsker p) is c.requires in
    record { base = h; on = subst (IsPassing c.in-Some-Pass.base) (sym is) refl }

pub returns-in-None : goal.returns-in-None
returns-in-None c =
    let p = c.args.program.now in
    let e = no_top c.args.self.now.frames.frames (sym c.top.ensures ∙ ap option_copied c.in-None.is) in
    record { base = subst (HasAsker p) e c.requires; on = e }

pub returns-in-Some-Region : goal.returns-in-Some-Region
returns-in-Some-Region c =
    let p = c.args.program.now in
    let xs = c.args.self.now.frames.frames in
    let t = top_frame xs c.in-Some-Region.field-0.now (sym c.top.ensures ∙ ap option_copied c.in-Some-Region.is) in
    let f = Region c.in-Some-Region.asked c.in-Some-Region.field-0-1 in
    let is = t.1 ∙ ap (λ (x : Frame). x ∷ t.0) c.in-Some-Region.field-0-is in
    let h = subst (HasAsker p) is c.requires in
    asker_from p c.top_asks.result (reverse xs) t.0 c.in-Some-Region.asked (subst (IsBodyAsking c.top_asks.result) (top_below xs f t.0 is) c.top_asks.ensures) (ap asking is) h

pub returns-in-Some-Attributes : goal.returns-in-Some-Attributes
returns-in-Some-Attributes c =
    let p = c.args.program.now in
    let xs = c.args.self.now.frames.frames in
    let t = top_frame xs c.in-Some-Attributes.field-0.now (sym c.top.ensures ∙ ap option_copied c.in-Some-Attributes.is) in
    let f = Attributes c.in-Some-Attributes.field-0-0 c.in-Some-Attributes.asked in
    let is = t.1 ∙ ap (λ (x : Frame). x ∷ t.0) c.in-Some-Attributes.field-0-is in
    let h = subst (HasAsker p) is c.requires in
    asker_from p c.top_asks-in-Some-Attributes.result (reverse xs) t.0 c.in-Some-Attributes.asked (subst (IsBodyAsking c.top_asks-in-Some-Attributes.result) (top_below xs f t.0 is) c.top_asks-in-Some-Attributes.ensures) (ap asking is) h

pub returns-in-Some-Source : goal.returns-in-Some-Source
returns-in-Some-Source c =
    let p = c.args.program.now in
    let xs = c.args.self.now.frames.frames in
    let t = top_frame xs c.in-Some-Source.field-0.now (sym c.top.ensures ∙ ap option_copied c.in-Some-Source.is) in
    let f = Source c.in-Some-Source.field-0-0 c.in-Some-Source.field-0-1 c.in-Some-Source.asked in
    let is = t.1 ∙ ap (λ (x : Frame). x ∷ t.0) c.in-Some-Source.field-0-is in
    let h = subst (HasAsker p) is c.requires in
    asker_from p c.top_asks-in-Some-Source.result (reverse xs) t.0 c.in-Some-Source.asked (subst (IsBodyAsking c.top_asks-in-Some-Source.result) (top_below xs f t.0 is) c.top_asks-in-Some-Source.ensures) (ap asking is) h
