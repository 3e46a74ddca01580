-- The innermost list is taken off and ends; where it is the last one, all is read.
use Rattle.std.proofs.Common.{◌≡◌, ℕ, List, [], ◌∷◌, ◌++◌, Ok, Err, ◌-◌, Option, Result, take, ap, sym, ◌∙◌}
use Rattle.std.proofs.Math.Path.{subst}
use Rattle.xml_events.specs.Tree.{End, Future, Mark}
use Rattle.sheet_loader.proofs.Popping.{all_read, popped_sound, popped_stage}
use Rattle.sheet_loader.specs.Events.{BehindEnd, BehindNode, stage_of, stage_within}
use Rattle.sheet_loader.specs.Reading.{Does, File, Listed}
use Rattle.sheet_loader.specs.Remaining.{Reads_on, Stage, remaining}
use Rattle.sheet_loader.specs.Sound.{IsSoundWithin}
use Rattle.sheet_loader.specs.Values.{Reads}
use Rattle.sheet_loader.specs.declared.draft.Draft.{Draft}
use Rattle.sheet_loader.specs.declared.frame.Frame.{Frame}
use Rattle.sheet_loader.specs.declared.refused.Stop.{Stop}
use Rattle.sheet_loader.specs.declared.refused.Stop.TheVariants as stop
use Rattle.sheet_loader.specs.Lists.{number_around}
use Rattle.sheet_loader.proofs.draft.Draft.end.Goals as goal

-- a list that ends in a fault, or for want of memory, ends so whichever it is
stopped : (reads : Reads) (files : List (Option File)) (x : Does Listed) (d new : Draft) (f : Future) (why : Stop) → BehindNode reads files x d f (Err why) → BehindEnd reads files x new f (Err why)
stopped reads files x d new f (stop.Fault why at) h = h
stopped reads files x d new f stop.Memory h = tt

pub returns-in-None-clause-behind : goal.returns-in-None-clause-behind
returns-in-None-clause-behind c =
    let d = c.args.self.now in
    let none : d.below.items ≡ [] =
    c.in-None.ensures.items ∙ ap (λ (l : List Frame). l ++ []) (c.in-None.ensures.rest ∙ ap (λ (n : ℕ). take (n - 1) d.below.items) c.in-None.ensures.cases.0) in
    all_read d c.requires none

pub end_list-requires : goal.end_list-requires
end_list-requires c =
    let d = c.args.self.now in
    let new : Draft = record d { top = c.replace-frame.new.dest; below = c.pop.new.self } in
    subst (λ (f : Frame). IsSoundWithin f new) (sym c.replace-frame.ensures.value)
    (popped_sound d new c.in-Some.around (ap (λ (t : Frame). record d { top = t; below = c.pop.new.self }) c.replace-frame.ensures.after) c.in-Some.ensures.items c.requires)

-- what a list comes to that was taken off is what the draft comes to
module _ (d new after : Draft) (around frame : Frame) (below : List Frame) (is : new ≡ record d { top = around; below = new.below }) (before : d.below.items ≡ new.below.items ++ around ∷ []) (taken : frame ≡ d.top) (result : Result (Unit {0}) Stop) where
  moved : (reads : Reads) (files : List (Option File)) (mark : Mark) (offset : ℕ) (f : Future)
      → BehindNode reads files (remaining reads files (Reads_on (stage_within frame new)) (End mark offset ∷ f)) after f result
      → BehindNode reads files (remaining reads files (Reads_on (stage_of d)) (End mark offset ∷ f)) after f result
  moved reads files mark offset f h =
      subst (λ (s : Stage). BehindNode reads files (remaining reads files (Reads_on s) (End mark offset ∷ f)) after f result) (sym (popped_stage d new around is before))
      (subst (λ (x : Frame). BehindNode reads files (remaining reads files (Reads_on (stage_within x new)) (End mark offset ∷ f)) after f result) taken h)

pub returns-in-Ok-clause-behind : goal.returns-in-Ok-clause-behind
returns-in-Ok-clause-behind c = λ reads files mark offset f.
    let d = c.args.self.now in
    let new : Draft = record d { top = c.replace-frame.new.dest; below = c.pop.new.self } in
    moved d new c.end_list.new.self c.in-Some.around c.replace-frame.result [] (ap (λ (t : Frame). record d { top = t; below = c.pop.new.self }) c.replace-frame.ensures.after) c.in-Some.ensures.items c.replace-frame.ensures.value (Ok tt) reads files mark offset f
    (c.in-Ok.ensures.behind reads files mark offset f)

pub returns-in-Err-clause-behind : goal.returns-in-Err-clause-behind
returns-in-Err-clause-behind c = λ reads files mark offset f.
    let d = c.args.self.now in
    let new : Draft = record d { top = c.replace-frame.new.dest; below = c.pop.new.self } in
    let why = c.in-Err.stop in
    let x = remaining reads files (Reads_on (stage_of d)) (End mark offset ∷ f) in
    stopped reads files x c.end_list.new.self c.end_list.new.self f why
    (moved d new c.end_list.new.self c.in-Some.around c.replace-frame.result [] (ap (λ (t : Frame). record d { top = t; below = c.pop.new.self }) c.replace-frame.ensures.after) c.in-Some.ensures.items c.replace-frame.ensures.value (Err why) reads files mark offset f
    (c.in-Err.ensures.behind reads files mark offset f))

pub returns-in-None-clause-lists : goal.returns-in-None-clause-lists
returns-in-None-clause-lists c =
    c.in-None.ensures.items ∙ ap (λ (l : List Frame). l ++ []) (c.in-None.ensures.rest ∙ ap (λ (n : ℕ). take (n - 1) c.args.self.now.below.items) c.in-None.ensures.cases.0)

pub returns-in-Ok-clause-lists : goal.returns-in-Ok-clause-lists
returns-in-Ok-clause-lists c =
    let d = c.args.self.now in
    let leaves = c.in-Ok.ensures.lists in
    record {
      around = c.in-Some.around;
      below = c.in-Some.ensures.items ∙ ap (λ b. b.items ++ c.in-Some.around ∷ []) (sym leaves.below);
      top = leaves.top ∙ ap (λ (t : Frame). t.opened) c.replace-frame.ensures.after;
      number = leaves.number ∙ ap (λ (t : Frame). number_around t.opened d.file.number) c.replace-frame.ensures.value;
    }
