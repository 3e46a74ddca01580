-- What a whole call keeps of what the host tells.
use Rattle.std.proofs.Common.{◌≡◌, ℕ, true, List, Some}
use Rattle.stx_base.specs.Course.{Begins}
use Rattle.stx_host.specs.Before.{since}
use Rattle.stx_host.specs.Outside.{Outside, TellsMain}
use Rattle.stx_host.specs.declared.act.Doc.{Doc}
use Rattle.sheet_loader.specs.Values.{Reads}
use Rattle.stx_engine.specs.Answer.{Answer, Asked_for, answer, asked}
use Rattle.stx_engine.specs.Headline.{KeepsAnswer, KeepsMain, KeepsTold, ReadsBack, Tells}
use Rattle.stx_engine.specs.Laws.{AnswersAreRead, AnswersNest}
use Rattle.stx_engine.specs.Plain.{takes_in_order}
use Rattle.stx_engine.specs.RunEnd.{line_in, status_in}
use Rattle.stx_engine.specs.Running.{Reports, Runs, RunsAnswered}
use Rattle.stx_engine.specs.declared.run_end.RunEnd.{RunEnd}
use Rattle.stx_engine.proofs.Back.{asked-answered, reads-back}
use Rattle.stx_engine.proofs.Completing.{fails-for-room}
use Rattle.stx_engine.proofs.Headed.{asks_settled, begins_output, begins_well, ends_in_line, gives_answer, is_plain, notes_failure, notes_its_failure, opens_first, reads_sheet_first, reads_to_end}

module _ (words : List (List ℕ)) (old mid new : Outside) (end : RunEnd) (r : Runs words old mid end) (result : ℕ) (reports : Reports mid (line_in end) (status_in end) new result) where
  pub keeps_main : (main : List ℕ) → TellsMain old main → KeepsMain old new words main result
  keeps_main main tells = record {
    ends = reads_to_end words old mid new end r result reports main tells;
    begins = begins_well words old mid new end r result reports main tells;
  }

  module _ (nest : AnswersNest) (read : AnswersAreRead) (reads : Reads) (docs : List Doc) (main : List ℕ) (tells : Tells old docs main) (answered : (a : Answer) → answer reads words docs main ≡ Some a → RunsAnswered reads words docs main old mid end a) where
    keeps_answer : (a : Answer) → answer reads words docs main ≡ Some a → KeepsAnswer old new reads words docs main result a
    keeps_answer a is =
        let so = answered a is in
        let begins : Begins (since old.out new.out) a.out = begins_output words old mid new end r result reports docs main tells reads a so in
        record {
          answer = gives_answer words old mid new end r result reports docs main tells reads a so;
          settled = asks_settled words old mid new end r result reports docs main tells reads a so;
          prefix = begins;
          nested = nest reads words docs main (since old.out new.out) a is begins;
          opened = opens_first words old mid new end r result reports docs main tells reads a so;
          failure = notes_failure words old mid new end r result reports docs main tells reads a so;
          room = fails-for-room old mid new end r.ids r.counts result reports reads words docs main tells.log a so;
        }

    reads_what_is_meant : (k : Asked_for) → asked reads words docs ≡ Some k → takes_in_order k.sheet ≡ true → ReadsBack old new main result k
    reads_what_is_meant k is order =
        let so = asked-answered reads words docs main k is order in reads-back read old new main result k so.0 order (keeps_answer _ so.1).answer

    pub keeps_told : KeepsTold old new reads words docs main result
    keeps_told = record {
      answered = keeps_answer;
      read_back = reads_what_is_meant;
      plain = is_plain words old mid new end r result reports docs main tells reads;
      sheet = reads_sheet_first words old mid new end r result reports docs main tells reads;
      line = ends_in_line words old mid new end r result reports docs main tells reads;
      failed = notes_its_failure words old mid new end r result reports docs main tells reads;
    }
