use Rattle.std.proofs.Common.{Some, None, refl}
use Rattle.run_engine.specs.declared.run.Core.{Core}
use Rattle.run_engine.specs.declared.run.Stage.TheVariants as stage
use Rattle.run_engine.proofs.Standing.{begun-so}
use Rattle.run_engine.proofs.run.Core.with_files.Goals as goal

pub returns : goal.returns
returns c =
    let core : Core = record {
      alloc = c.args.alloc;
      limits = c.args.limits;
      strip = c.args.sheet.strip;
      cdata = c.args.sheet.cdata;
      files = c.args.files;
      machine = c.in_ok-machine.machine;
      newest = Some (record { name = None; reader = c.for_sheet.result });
      outer = c.new-2.result;
      stage = stage.New;
      spare = c.new-3.result;
      out = c.new-4.result;
    } in
    begun-so c.args.sheet c.args.params c.args.limits core c.for_sheet.result refl c.in_ok-machine.ensures.new c.in_ok-machine.ensures.depth c.in_ok-machine.ensures.fuel c.in_ok-machine.ensures.fuel_limit refl refl refl c.requires.files refl
    c.new-2.ensures.items c.for_sheet.ensures.source c.for_sheet.ensures.document c.documents.ensures c.in_ok-machine.ensures.runs c.in_ok-machine.ensures.params c.new-4.ensures.target c.new-4.ensures.bytes c.new-4.ensures.notes
