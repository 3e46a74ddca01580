use Rattle.std.proofs.Common.{◌≡◌, ◌∙◌, ℕ, List, Some, inl, inr, refl, subst}
use Rattle.stx_host.specs.declared.act.Doc.{Doc}
use Rattle.sheet_loader.specs.Values.{Reads}
use Rattle.fault_report.specs.declared.outcome.Outcome.TheVariants.{Memory}
use Rattle.stx_engine.specs.Answer.{Answer, answer}
use Rattle.stx_engine.specs.Headline.{Tells}
use Rattle.stx_engine.specs.RunEnd.{line_in, status_in}
use Rattle.stx_engine.specs.Running.{Reports, Runs}
use Rattle.stx_engine.specs.Words.{spelled}
use Rattle.stx_engine.specs.declared.run_end.RunEnd.{RunEnd}
use Rattle.stx_engine.specs.declared.run_end.RunEnd.TheVariants.{Told, Unnoted}
use Rattle.stx_engine.proofs.Headed.{gives_ids_back, is_status, refuses_unnamed, told_of}
use Rattle.stx_engine.proofs.Keeping.{keeps_main, keeps_told}
use Rattle.stx_engine.proofs.Answered.{answered-lacking, answered-words}
use Rattle.stx_engine.proofs.LastLine.{ran-wanting-line}
use Rattle.stx_engine.proofs.driver.transform.Goals as goal

-- the run's own line
pub returns-in-Ok : goal.returns-in-Ok
returns-in-Ok g c =
    let words = spelled c.args.words.now in
    let old = g.H.Host.outside c.args.host.now in
    let mid = g.H.Host.outside c.run-end.new.host in
    let new = g.H.Host.outside c.report.new.host in
    let end = c.run-end.result in
    let r = c.run-end.ensures.runs in
    let result = c.report.result in
    let reports : Reports mid (line_in end) (status_in end) new result = subst (λ line. Reports mid line (status_in end) new result) (c.as_str.ensures.bytes ∙ c.in-Ok.ensures.line)
    (subst (λ status. Reports mid c.as_str.result.now status new result) c.status.ensures c.report.ensures) in
    let answered = λ (reads : Reads) (docs : List Doc) (main : List ℕ) (tells : Tells old docs main) (a : Answer) (is : answer reads words docs main ≡ Some a).
    answered-words c.runs.ensures c.meant.ensures.keeps c.one_meaning.ensures.some c.one_meaning.ensures.function c.pieces.ensures.joined reads words docs main a is old (told_of old.open_ids old.documents docs tells.open_ids tells.documents) tells.main_document mid end c.run-end.ensures.does in
    record {
      told = λ reads docs main tells. keeps_told words old mid new end r result reports c.answers.ensures.nested c.answers.ensures.read reads docs main tells (answered reads docs main tells);
      main = λ main tells. keeps_main words old mid new end r result reports main tells;
      does = record { before = mid; end = end; did = c.run-end.ensures.does; last = end; said = inl refl; reports = reports };
      status = is_status words old mid new end r result reports;
      words = refuses_unnamed words old mid new end r result reports;
      ids = gives_ids_back words old mid new end r result reports;
    }

-- the line of want of memory, where the run's own line couldn't be made
pub returns : goal.returns
returns g c =
    let words = spelled c.args.words.now in
    let old = g.H.Host.outside c.args.host.now in
    let mid = g.H.Host.outside c.run-end.new.host in
    let new = g.H.Host.outside c.report-in-Err.new.host in
    let end : RunEnd = Told Memory in
    let noted : c.run-end.result ≡ Unnoted → ⊥ = λ is. let made = c.in-Err.ensures.unnoted is in cc made in
    let r : Runs words old mid end = ran-wanting-line words old mid c.run-end.result c.run-end.ensures.runs noted in
    let result = c.report-in-Err.result in
    let reports : Reports mid (line_in end) (status_in end) new result = c.report-in-Err.ensures in
    let answered = λ (reads : Reads) (docs : List Doc) (main : List ℕ) (tells : Tells old docs main) (a : Answer) (is : answer reads words docs main ≡ Some a).
    answered-lacking reads words docs main a old mid c.run-end.result c.run-end.ensures.runs.counts
    (answered-words c.runs.ensures c.meant.ensures.keeps c.one_meaning.ensures.some c.one_meaning.ensures.function c.pieces.ensures.joined reads words docs main a is old (told_of old.open_ids old.documents docs tells.open_ids tells.documents) tells.main_document mid c.run-end.result c.run-end.ensures.does) in
    record {
      told = λ reads docs main tells. keeps_told words old mid new end r result reports c.answers.ensures.nested c.answers.ensures.read reads docs main tells (answered reads docs main tells);
      main = λ main tells. keeps_main words old mid new end r result reports main tells;
      does = record { before = mid; end = c.run-end.result; did = c.run-end.ensures.does; last = end; said = inr (refl, noted); reports = reports };
      status = is_status words old mid new end r result reports;
      words = refuses_unnamed words old mid new end r result reports;
      ids = gives_ids_back words old mid new end r result reports;
    }
