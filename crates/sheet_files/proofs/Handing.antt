-- What stays so where the innermost file's reader wants more bytes: it is given one, or told that there is none, or the limit is reached.
use Rattle.std.proofs.Common.{◌≡◌, ℕ, suc, ◌<◌, ◌≤◌, Bool, true, false, List, [], ◌∷◌, ◌++◌, length, get_or, Option, Some, None, refl, sym, ap, subst, ◌∙◌, arith}
use Rattle.std.proofs.lemmas.Bool.{false≢true, leb-true, leb-false}
use Rattle.std.specs.Prelude.{nat_le}
use Rattle.stx_base.specs.Course.{Ends, says}
use Rattle.stx_base.specs.declared.fault.SheetCode.TheVariants as code
use Rattle.stx_base.specs.declared.fault.XmlFault.{XmlFault}
use Rattle.stx_base.specs.declared.limits.Limits.{Limits}
use Rattle.stx_base.proofs.Course.{result_or_end, stopped}
use Rattle.xml_events.specs.Answering.{Goes}
use Rattle.xml_events.specs.Source.{IsAnswer, Leaves, Source, ended_there, fed_with, future}
use Rattle.xml_events.specs.Telling.{pulled}
use Rattle.xml_events.specs.Tree.{Why, Need, Bad, Cut, Future}
use Rattle.xml_events.specs.declared.event.Pull.TheVariants as pull
use Rattle.sheet_loader.specs.Files.{Documents}
use Rattle.sheet_loader.specs.Levels.{limit_at}
use Rattle.sheet_loader.specs.Lists.{FilesAre, lists_in, lists_of}
use Rattle.sheet_loader.specs.Load.{sheet_of}
use Rattle.sheet_loader.specs.Loaders.{EndsAtLimit, EndsBad, GivesSheet, Standing, is_over, wanted_in}
use Rattle.sheet_loader.specs.Read.{code_of_job}
use Rattle.sheet_loader.specs.Reading.{File, Refused}
use Rattle.sheet_loader.specs.Remaining.{Ended, Progress, Reads_on, Refused_at, Spent, Stage, Wants_file, place_of, remaining, version_by}
use Rattle.sheet_loader.specs.Resuming.{CutsList, SameAnswer, TakesElement}
use Rattle.sheet_loader.specs.Values.{Reads}
use Rattle.sheet_model.specs.declared.sheet.Sheet.{Sheet}
use Rattle.sheet_files.specs.Following.{Comes, EndsShort, Follows, IsGoing}
use Rattle.sheet_files.specs.Frames.{AreCut, ComesTo, Frame, GoesOn, files_cut, lists_at, lists_cut, lists_open, parts_of, shares}
use Rattle.sheet_files.proofs.Counting.{innermost_is, limit_there, share_taken}
use Rattle.sheet_files.proofs.Courses.{answer_back, answer_said, answer_then, equal_answer}
use Rattle.sheet_files.proofs.Cuts.{ended, handed_over, limit_here, wanting}
use Rattle.sheet_files.proofs.Following.{goes_on_by, may_be_read, not_both}
use Rattle.sheet_files.proofs.Places.{limit_is, number_in}
use Rattle.sheet_files.proofs.Steps.{given_more}
use Rattle.sheet_files.proofs.Stopping.{Is_cut, IsStopped, bad_there, limited_there, stopped_there}

-- where a loader stands that isn't over and wants no file
pub reads_on_of : (p : Progress) → is_over p ≡ false → wanted_in p ≡ None → (s : Stage) × (p ≡ Reads_on s)
reads_on_of (Reads_on s) on none = (s, refl)
reads_on_of (Wants_file href s) on none = cc
reads_on_of (Ended items l) on none = absurd (false≢true (sym on))
reads_on_of (Refused_at at why) on none = absurd (false≢true (sym on))
reads_on_of Spent on none = absurd (false≢true (sym on))

stopped_with : (why : Why) (f g : Future) → IsStopped why f → IsStopped why (f ++ g)
stopped_with why f g s = record { list = s.list; others = s.others ++ g; is = ap (λ (l : Future). l ++ g) s.is; stops = s.stops }

stopped_some : (why : Why) (f : Future) → IsStopped why f → 0 < length f
stopped_some why f s = let e : length f ≡ suc (length s.others) = ap length s.is in omega arith

module _ (limits : Limits) (docs : Documents) (name : List ℕ) (cuts_end : (reads : Reads) (files : List (Option File)) → CutsList reads files) (elements : (reads : Reads) (files : List (Option File)) → TakesElement reads files) where
  module _ (f : Frame) (outer : List Frame) (x : Standing) (left : ℕ) (follows : Follows limits docs name (f ∷ outer) x left)
      (reads_on : is_over x.progress ≡ false) (none : wanted_in x.progress ≡ None) where
    abbrev stage : Stage
    stage = (reads_on_of x.progress reads_on none).0

    stands : x.progress ≡ Reads_on stage
    stands = (reads_on_of x.progress reads_on none).1

    goes : GoesOn limits name x.names (f ∷ outer) (Reads_on stage)
    goes = subst (λ (p : Progress). GoesOn limits name x.names (f ∷ outer) p) stands (goes_on_by limits docs name f outer x left follows reads_on)

    -- the innermost file is that in which the loader reads
    number : 0 < f.lists → number_in (lists_in stage.levels) ≡ length (parts_of outer)
    number some = ap (λ (p : Progress). number_in (lists_of p)) (sym stands) ∙ ap number_in (follows.lists reads_on) ∙ innermost_is f.lists outer (lists_open outer) some

    -- The reader wants more bytes.
    module _ (s : Source) (answer : IsAnswer f.source pull.Need) (leaves : Leaves f.source pull.Need s) (gives : Goes f.source pull.Need s) (same_end : s.lexer.ended ≡ f.source.lexer.ended) where
      stopped_here : IsStopped Need (future f.source [] false)
      stopped_here = subst (IsStopped Need) (leaves [] false) (stopped_there s [] false Need gives.1 (ap pulled (leaves [] false) ∙ answer.0))

      some : 0 < f.lists
      some = let n = stopped_some Need (future f.source [] false) stopped_here in let e = (follows.going reads_on).0.lists [] false in omega (arith, n, e)

      abbrev pub needs : Frame
      needs = record f { source = s }

      needs_going : IsGoing needs
      needs_going = record {
        lists = λ more e. ap length (leaves more e) ∙ (follows.going reads_on).0.lists more e;
        over = λ h. absurd (not_both s.over gives.0 h);
        ended = λ h. (follows.going reads_on).0.ended (sym same_end ∙ h);
        within = (follows.going reads_on).0.within;
        known = (follows.going reads_on).0.known;
        began = λ z e event h. (follows.going reads_on).0.began z e event (ap pulled (sym (leaves [] e)) ∙ h);
      }

      -- it needs for them
      pub need_follows : Follows limits docs name (needs ∷ outer) x left
      need_follows = record {
        comes = subst (λ (b : Bool). Comes limits name (needs ∷ outer) x b) (sym reads_on)
            (given_more limits name x.names f outer s f.taken x.progress (omega arith) (λ m le. leaves _ _) (goes_on_by limits docs name f outer x left follows reads_on));
        fewer = follows.fewer;
        going = λ on. (needs_going, (follows.going reads_on).1);
        include = follows.include;
        fit = follows.fit;
        names = follows.names;
        lists = λ on. follows.lists on;
        files = follows.files;
        spent = follows.spent;
        all = follows.all;
        adds = follows.adds;
        read = follows.read;
        few = follows.few;
        busy = follows.busy;
        most = follows.most;
        more = follows.more;
        loads = follows.loads;
        chain = follows.chain;
        short = follows.short;
        begins = follows.begins;
      }

      -- the limit would come where it is
      pub short_ends : f.taken < length f.part.bytes → (reads : Reads) (cuts : List ℕ) → AreCut outer cuts → (others : List (Option File))
          → let files = files_cut limits (f ∷ outer) (f.taken ∷ cuts) ++ others in Ends (code_of_job reads files) (sheet_of reads name files) x.names (Refused (record { file = length (parts_of outer); offset = f.taken }) code.SheetTooLarge)
      short_ends within reads cuts cut others =
          let n = length (parts_of outer) in
          let files = files_cut limits (f ∷ outer) (f.taken ∷ cuts) ++ others in
          let y = lists_cut outer cuts in
          let lists : lists_at f.source f.taken f.part.bytes f.taken ++ y ≡ future f.source [] false ++ y = ap (λ (g : Future). g ++ y) (wanting f.source f.part.bytes f.taken within) in
          let le : f.taken ≤ f.taken = omega arith in
          let here = goes (f.taken ∷ cuts) (le, cut) reads others in
          let limit : limit_at files n ≡ Some f.taken = limit_there limits f outer f.taken cuts others cut ∙ limit_here f.part.bytes f.taken within in
          let ends = answer_then reads files here
          (answer_said reads files x.names
          (answer_then reads files (equal_answer reads files (ap (remaining reads files (Reads_on stage)) lists))
          (limited_there reads files (cuts_end reads files) (elements reads files) stage (future f.source [] false ++ y) n f.taken (stopped_with Need (future f.source [] false) y stopped_here) (number some) limit))) in
          ends.ends.from x.names _ (stopped _ x.names _)

      short : f.taken < length f.part.bytes → (reads : Reads) (cuts : List ℕ) → AreCut outer cuts → EndsShort reads name (files_cut limits (f ∷ outer) (f.taken ∷ cuts))
      short within reads cuts cut others = (x.names, record { file = length (parts_of outer); offset = f.taken }, code.SheetTooLarge, short_ends within reads cuts cut others)

      -- it is given one
      module _ (t : Source) (byte : ℕ) (less : ℕ) (within : f.taken < length f.part.bytes) (is_byte : byte ≡ get_or f.part.bytes f.taken 0) (is_fed : t ≡ fed_with s (byte ∷ []))
          (fed : (more : List ℕ) (ended : Bool) → future t more ended ≡ future s (byte ∷ more) ended) (one : left ≡ suc less) where
        abbrev pub given : Frame
        given = record f { source = t; taken = suc f.taken }

        given_lists : (m : ℕ) → suc f.taken ≤ m → lists_at t (suc f.taken) f.part.bytes m ≡ lists_at f.source f.taken f.part.bytes m
        given_lists m le =
            handed_over f.source t f.part.bytes f.taken m within le
            (λ more ended. fed more ended ∙ leaves (byte ∷ more) ended ∙ ap (λ (b : ℕ). future f.source (b ∷ more) ended) is_byte)

        given_fewer : (m : ℕ) → m < suc f.taken → (reads : Reads) (cuts : List ℕ) → AreCut outer cuts → EndsShort reads name (files_cut limits (f ∷ outer) (m ∷ cuts))
        given_fewer m lt reads cuts cut = as_case (nat_le f.taken m) refl where
          as_case : (b : Bool) → nat_le f.taken m ≡ b → EndsShort reads name (files_cut limits (f ∷ outer) (m ∷ cuts))
          as_case true e =
              let le : f.taken ≤ m = leb-true f.taken m e in
              let is : f.taken ≡ m = omega arith in
              subst (λ (k : ℕ). EndsShort reads name (files_cut limits (f ∷ outer) (k ∷ cuts))) is (short within reads cuts cut)
          as_case false e = let lt : m < f.taken = leb-false f.taken m e in follows.fewer.0 m lt reads cuts cut

        given_going : IsGoing given
        given_going = record {
          lists = λ more ended. ap length (fed more ended) ∙ ap length (leaves (byte ∷ more) ended) ∙ (follows.going reads_on).0.lists (byte ∷ more) ended;
          over = λ h. absurd (not_both t.over (ap (λ (k : Source). k.over) is_fed ∙ gives.0) h);
          ended = λ h. absurd (false≢true (sym answer.1 ∙ sym same_end ∙ sym (ap (λ (k : Source). k.lexer.ended) is_fed) ∙ h));
          within = within;
          known = let h = (follows.going reads_on).0.known in omega (arith, h);
          began = λ z. absurd (omega (arith, z));
        }

        -- and so it goes on
        pub byte_follows : Follows limits docs name (given ∷ outer) x less
        byte_follows = record {
          comes = subst (λ (b : Bool). Comes limits name (given ∷ outer) x b) (sym reads_on)
              (given_more limits name x.names f outer t (suc f.taken) x.progress (omega arith) given_lists (goes_on_by limits docs name f outer x left follows reads_on));
          fewer = (given_fewer, follows.fewer.1);
          going = λ on. (given_going, (follows.going reads_on).1);
          include = follows.include;
          fit = follows.fit;
          names = follows.names;
          lists = λ on. follows.lists on;
          files = follows.files;
          spent = suc follows.spent;
          all = let h = follows.all in omega (arith, h, one);
          adds = ((let h = follows.adds.0 in omega (arith, h)), follows.adds.1);
          read = let h = follows.read in omega (arith, h);
          few = let h = follows.few in omega (arith, h);
          busy = λ some. let h = follows.few in omega (arith, h);
          most = follows.most;
          more = follows.more;
          loads = follows.loads;
          chain = follows.chain;
          short = (let h = follows.adds.0 in let a = follows.all in omega (arith, h, a, one), follows.short.1);
          begins = follows.begins;
        }

      -- it is told that there is none
      module _ (t : Source) (all : f.taken ≡ length f.part.bytes) (is_ended : t ≡ ended_there s) (ended_so : (more : List ℕ) (ended : Bool) → future t more ended ≡ future s [] true) where
        abbrev pub ends : Frame
        ends = record f { source = t }

        ends_lists : (m : ℕ) → f.taken ≤ m → lists_at t f.taken f.part.bytes m ≡ lists_at f.source f.taken f.part.bytes m
        ends_lists m le =
            subst (λ (n : ℕ). lists_at t n f.part.bytes m ≡ lists_at f.source n f.part.bytes m) (sym all)
            (ended f.source t f.part.bytes m (subst (λ (n : ℕ). n ≤ m) all le) (λ more e. ended_so more e ∙ leaves [] true))

        ends_going : IsGoing ends
        ends_going = record {
          lists = λ more e. ap length (ended_so more e) ∙ ap length (leaves [] true) ∙ (follows.going reads_on).0.lists [] true;
          over = λ h. absurd (not_both t.over (ap (λ (k : Source). k.over) is_ended ∙ gives.0) h);
          ended = λ h. all;
          within = (follows.going reads_on).0.within;
          known = (follows.going reads_on).0.known;
          began = λ z e event h. (follows.going reads_on).0.began z true event (ap pulled (sym (leaves [] true)) ∙ ap pulled (sym (ended_so [] e)) ∙ h);
        }

        pub end_follows : Follows limits docs name (ends ∷ outer) x left
        end_follows = record {
          comes = subst (λ (b : Bool). Comes limits name (ends ∷ outer) x b) (sym reads_on)
              (given_more limits name x.names f outer t f.taken x.progress (omega arith) ends_lists (goes_on_by limits docs name f outer x left follows reads_on));
          fewer = follows.fewer;
          going = λ on. (ends_going, (follows.going reads_on).1);
          include = follows.include;
          fit = follows.fit;
          names = follows.names;
          lists = λ on. follows.lists on;
          files = follows.files;
          spent = follows.spent;
          all = follows.all;
          adds = follows.adds;
          read = follows.read;
          few = follows.few;
          busy = follows.busy;
          most = follows.most;
          more = follows.more;
          loads = follows.loads;
          chain = follows.chain;
          short = follows.short;
          begins = follows.begins;
        }

      -- the limit is reached
      module _ (y : Standing) (nothing_left : left ≡ 0) (within : f.taken < length f.part.bytes) (at_limit : EndsAtLimit f.taken x.progress y.progress) (names : y.names ≡ x.names) (over : is_over y.progress ≡ true) (files_are : FilesAre y.names y.progress) where
        limited_at : (reads : Reads) (others : List (Option File)) → AreCut outer (shares limits outer)
            → let files = files_cut limits (f ∷ outer) (f.taken ∷ shares limits outer) ++ others in SameAnswer reads files (sheet_of reads name files) (says x.names (remaining reads files y.progress (lists_cut (needs ∷ outer) (f.taken ∷ shares limits outer))))
        limited_at reads others cut =
            let n = length (parts_of outer) in
            let cuts = f.taken ∷ shares limits outer in
            let files = files_cut limits (f ∷ outer) cuts ++ others in
            let y0 = lists_cut outer (shares limits outer) in
            let g = lists_cut (needs ∷ outer) cuts in
            let lists : lists_at f.source f.taken f.part.bytes f.taken ++ y0 ≡ future f.source [] false ++ y0 = ap (λ (h : Future). h ++ y0) (wanting f.source f.part.bytes f.taken within) in
            let le : f.taken ≤ f.taken = omega arith in
            let limit : limit_at files n ≡ Some f.taken = limit_there limits f outer f.taken (shares limits outer) others cut ∙ limit_here f.part.bytes f.taken within in
            let premise : (place_of files stage (Cut Need ∷ g)).here.limit ≡ Some f.taken =
            limit_is stage.loading.sheet.files files (version_by stage.version (Cut Need ∷ g)) stage.levels ∙ ap (limit_at files) (number some) ∙ limit in
            let ends : EndsAtLimit f.taken (Reads_on stage) y.progress = subst (λ (p : Progress). EndsAtLimit f.taken p y.progress) stands at_limit in
            answer_then reads files (goes cuts (le, cut) reads others)
            (answer_said reads files x.names
            (answer_then reads files (equal_answer reads files (ap (remaining reads files (Reads_on stage)) lists))
            (answer_then reads files
            (limited_there reads files (cuts_end reads files) (elements reads files) stage (future f.source [] false ++ y0) n f.taken (stopped_with Need (future f.source [] false) y0 stopped_here) (number some) limit)
            (answer_then reads files
            (answer_back reads files (limited_there reads files (cuts_end reads files) (elements reads files) stage (Cut Need ∷ g) n f.taken (record { list = Cut Need; others = g; is = refl; stops = Is_cut }) (number some) limit))
            (ends reads files g premise)))))

        limited : ComesTo limits name x.names (needs ∷ outer) y.progress (shares limits (needs ∷ outer))
        limited reads others =
            let share : shares limits (f ∷ outer) ≡ f.taken ∷ shares limits outer =
            ap (λ (m : ℕ). m ∷ shares limits outer) (share_taken limits f follows.spent follows.adds.0 (omega (arith, follows.all, nothing_left)) (follows.going reads_on).0.known) in
            subst (λ (ms : List ℕ). let files = files_cut limits (f ∷ outer) ms ++ others in SameAnswer reads files (sheet_of reads name files) (says x.names (remaining reads files y.progress (lists_cut (needs ∷ outer) ms)))) (sym share)
            (limited_at reads others (may_be_read limits docs name f outer x left follows).1)

        -- there is no sheet
        pub none_at_limit : (sheet : Sheet) → GivesSheet y sheet → Reads → ⊥
        none_at_limit sheet gives reads =
            let n = length (parts_of outer) in
            let cuts = f.taken ∷ shares limits outer in
            let files = files_cut limits (f ∷ outer) cuts ++ [] in
            let cut : AreCut outer (shares limits outer) = (may_be_read limits docs name f outer x left follows).1 in
            let limit : limit_at files n ≡ Some f.taken = limit_there limits f outer f.taken (shares limits outer) [] cut ∙ limit_here f.part.bytes f.taken within in
            let premise : (place_of files stage (Cut Need ∷ [])).here.limit ≡ Some f.taken =
            limit_is stage.loading.sheet.files files (version_by stage.version (Cut Need ∷ [])) stage.levels ∙ ap (limit_at files) (number some) ∙ limit in
            let ends : EndsAtLimit f.taken (Reads_on stage) y.progress = subst (λ (p : Progress). EndsAtLimit f.taken p y.progress) stands at_limit in
            let same = answer_then reads files
            (answer_back reads files (limited_there reads files (cuts_end reads files) (elements reads files) stage (Cut Need ∷ []) n f.taken (record { list = Cut Need; others = []; is = refl; stops = Is_cut }) (number some) limit))
            (ends reads files [] premise) in
            let r = gives reads files [] in
            result_or_end r.1 (same.ends.to [] (Refused (record { file = n; offset = f.taken }) code.SheetTooLarge) (record { depth = 0; comes = refl }))

        pub limit_follows : Follows limits docs name (needs ∷ outer) y left
        limit_follows = record {
          comes = subst (λ (b : Bool). Comes limits name (needs ∷ outer) y b) (sym over)
              (subst (λ (ns : List (List ℕ)). ComesTo limits name ns (needs ∷ outer) y.progress (shares limits (needs ∷ outer))) (sym names) limited);
          fewer = follows.fewer;
          going = λ on. (needs_going, (follows.going reads_on).1);
          include = follows.include;
          fit = follows.fit;
          names = follows.names ∙ sym names;
          lists = λ on. absurd (false≢true (sym on ∙ over));
          files = files_are;
          spent = follows.spent;
          all = follows.all;
          adds = follows.adds;
          read = follows.read;
          few = follows.few;
          busy = follows.busy;
          most = follows.most;
          more = follows.more;
          loads = follows.loads;
          chain = follows.chain;
          short = follows.short;
          begins = follows.begins;
        }

    -- The file has a fault.
    module _ (s : Source) (y : Standing) (fault : XmlFault) (answer : IsAnswer f.source (pull.Bad fault)) (leaves : Leaves f.source (pull.Bad fault) s) (gives : Goes f.source (pull.Bad fault) s) (same_end : s.lexer.ended ≡ f.source.lexer.ended)
        (bad : EndsBad fault x.progress y.progress) (names : y.names ≡ x.names) (over : is_over y.progress ≡ true) (files_are : FilesAre y.names y.progress) where
      abbrev pub fails : Frame
      fails = record f { source = s }

      bad_stopped : (more : List ℕ) (e : Bool) → IsStopped (Bad fault) (future f.source more e)
      bad_stopped more e = subst (IsStopped (Bad fault)) (leaves more e) (stopped_there s more e (Bad fault) gives (ap pulled (leaves more e) ∙ answer more e))

      bad_some : 0 < f.lists
      bad_some = let n = stopped_some (Bad fault) (future f.source [] false) (bad_stopped [] false) in let e = (follows.going reads_on).0.lists [] false in omega (arith, n, e)

      -- there is no sheet
      pub none_if_bad : (sheet : Sheet) → GivesSheet y sheet → Reads → ⊥
      none_if_bad sheet gives reads =
          let n = length (parts_of outer) in
          let ends : EndsBad fault (Reads_on stage) y.progress = subst (λ (p : Progress). EndsBad fault p y.progress) stands bad in
          let same = answer_then reads []
          (answer_back reads [] (bad_there reads [] (cuts_end reads []) (elements reads []) stage (Cut (Bad fault) ∷ []) n fault (record { list = Cut (Bad fault); others = []; is = refl; stops = Is_cut }) (number bad_some)))
          (ends reads [] []) in
          let r = gives reads [] [] in
          result_or_end r.1 (same.ends.to [] (Refused (record { file = n; offset = fault.offset }) code.BadXml) (record { depth = 0; comes = refl }))

      failed : (cuts : List ℕ) → AreCut (f ∷ outer) cuts → ComesTo limits name x.names (fails ∷ outer) y.progress cuts
      failed [] cut reads others = absurd cut
      failed (m ∷ cuts) cut reads others =
          let n = length (parts_of outer) in
          let files = files_cut limits (f ∷ outer) (m ∷ cuts) ++ others in
          let g = lists_cut (fails ∷ outer) (m ∷ cuts) in
          let h = lists_at f.source f.taken f.part.bytes m in
          let ends : EndsBad fault (Reads_on stage) y.progress = subst (λ (p : Progress). EndsBad fault p y.progress) stands bad in
          answer_then reads files (goes (m ∷ cuts) cut reads others)
          (answer_said reads files x.names
          (answer_then reads files
          (bad_there reads files (cuts_end reads files) (elements reads files) stage (h ++ lists_cut outer cuts) n fault (stopped_with (Bad fault) h (lists_cut outer cuts) (bad_stopped _ _)) (number bad_some))
          (answer_then reads files
          (answer_back reads files (bad_there reads files (cuts_end reads files) (elements reads files) stage (Cut (Bad fault) ∷ g) n fault (record { list = Cut (Bad fault); others = g; is = refl; stops = Is_cut }) (number bad_some)))
          (ends reads files g))))

      pub bad_follows : Follows limits docs name (fails ∷ outer) y left
      bad_follows = record {
        comes = subst (λ (b : Bool). Comes limits name (fails ∷ outer) y b) (sym over)
            (subst (λ (ns : List (List ℕ)). ComesTo limits name ns (fails ∷ outer) y.progress (shares limits (fails ∷ outer))) (sym names)
            (failed (shares limits (fails ∷ outer)) (may_be_read limits docs name f outer x left follows)));
        fewer = follows.fewer;
        going = λ on. absurd (false≢true (sym on ∙ over));
        include = follows.include;
        fit = follows.fit;
        names = follows.names ∙ sym names;
        lists = λ on. absurd (false≢true (sym on ∙ over));
        files = files_are;
        spent = follows.spent;
        all = follows.all;
        adds = follows.adds;
        read = follows.read;
        few = follows.few;
        busy = follows.busy;
        most = follows.most;
        more = follows.more;
        loads = follows.loads;
        chain = follows.chain;
        short = follows.short;
        begins = follows.begins;
      }
