-- What stays so of a sheet at each step of reading its files.
use Rattle.std.proofs.Common.{◌≡◌, ℕ, zero, suc, ◌<◌, Bool, true, false, List, [], ◌∷◌, length, Option, Some, None, refl, sym, ap, subst, ◌∙◌, arith}
use Rattle.std.proofs.lemmas.Bool.{false≢true}
use Rattle.stx_base.specs.declared.limits.Limits.{Limits}
use Rattle.xml_events.specs.Answering.{Counts, EndsWhole, Goes, answer_of, lists_behind as count_behind}
use Rattle.xml_events.specs.Source.{IsAnswer, Leaves, Source, future}
use Rattle.xml_events.specs.Telling.{followed}
use Rattle.xml_events.specs.Tree.{Future}
use Rattle.xml_events.specs.declared.event.Event.{Event}
use Rattle.xml_events.specs.declared.event.Event.TheVariants as event
use Rattle.xml_events.specs.declared.event.Pull.TheVariants as pull
use Rattle.xml_tokens.specs.declared.lexeme.Ending.{Ending}
use Rattle.xml_tokens.specs.declared.lexeme.Ending.TheVariants as ending
use Rattle.sheet_loader.specs.Files.{Documents}
use Rattle.sheet_loader.specs.Lists.{FilesAre, KeepsLists, lists_behind, lists_of}
use Rattle.sheet_loader.specs.Loaders.{Standing, TakesEvent, is_over, wanted_in}
use Rattle.sheet_loader.specs.Remaining.{Ended, Progress, Reads_on, Refused_at, Spent, Wants_file}
use Rattle.sheet_files.specs.Following.{Comes, Follows, IsGoing}
use Rattle.sheet_files.specs.Frames.{AreCut, Frame, GoesOn, lists_open, shares}
use Rattle.sheet_files.proofs.Counting.{cuts_shared, document_one, lists_then}
use Rattle.sheet_files.proofs.Steps.{event_taken}

-- nothing is repeated, or the document's end is
pub not_both : (o : Option Ending) → o ≡ None → o ≡ Some ending.End → ⊥
not_both o none over = cc

positive : (n : ℕ) → (n ≡ 0 → ⊥) → 0 < n
positive zero h = absurd (h refl)
positive (suc n) h = omega arith

module _ (limits : Limits) (docs : Documents) (name : List ℕ) where
  -- what goes on comes to it as far as files may be read
  comes_by : (b : Bool) (frames : List Frame) (x : Standing) → AreCut frames (shares limits frames) → GoesOn limits name x.names frames x.progress → Comes limits name frames x b
  comes_by false frames x cut goes = goes
  comes_by true frames x cut goes = goes (shares limits frames) cut

  -- the innermost file is there
  module _ (f : Frame) (outer : List Frame) (x : Standing) (left : ℕ) (follows : Follows limits docs name (f ∷ outer) x left) where
    pub may_be_read : AreCut (f ∷ outer) (shares limits (f ∷ outer))
    may_be_read = cuts_shared limits f outer follows.spent follows.adds.0 (omega (arith, follows.all)) follows.include

    pub goes_on_by : is_over x.progress ≡ false → GoesOn limits name x.names (f ∷ outer) x.progress
    goes_on_by e = subst (λ (b : Bool). Comes limits name (f ∷ outer) x b) e follows.comes

    some_lists : (g : Future) (e : Event) → length (followed e g) ≡ f.lists → 0 < f.lists
    some_lists g (event.Start offset n attrs decls first) h = omega (arith, h)
    some_lists g (event.End offset) h = omega (arith, h)
    some_lists g (event.Chars offset text) h = omega (arith, h)
    some_lists g (event.CData offset text) h = omega (arith, h)
    some_lists g (event.Comment offset text) h = omega (arith, h)
    some_lists g (event.Pi offset target text) h = omega (arith, h)
    some_lists g (event.DocumentEnd offset) h = omega (arith, h)

    not_over : (o : Option Ending) (e : Event) → ((over : Ending) → o ≡ Some over → pull.Event e ≡ answer_of over) → o ≡ None
    not_over None e h = refl
    not_over (Some ending.End) e h = let no : pull.Event e ≡ pull.End = h ending.End refl in cc
    not_over (Some (ending.Bad fault)) e h = let no : pull.Event e ≡ pull.Bad fault = h (ending.Bad fault) refl in cc
    not_over (Some ending.Memory) e h = let no : pull.Event e ≡ pull.Memory = h ending.Memory refl in cc

    ends_by : (e : Event) (old new : Source) → old.over ≡ None → Goes old (pull.Event e) new → EndsWhole old (pull.Event e) → new.lexer.ended ≡ old.lexer.ended → new.over ≡ Some ending.End → new.lexer.ended ≡ true
    ends_by (event.DocumentEnd offset) old new none goes whole same over = same ∙ whole
    ends_by (event.Start offset n attrs decls first) old new none goes whole same over = let h : new.over ≡ None = goes none in cc
    ends_by (event.End offset) old new none goes whole same over = let h : new.over ≡ None = goes none in cc
    ends_by (event.Chars offset text) old new none goes whole same over = let h : new.over ≡ None = goes none in cc
    ends_by (event.CData offset text) old new none goes whole same over = let h : new.over ≡ None = goes none in cc
    ends_by (event.Comment offset text) old new none goes whole same over = let h : new.over ≡ None = goes none in cc
    ends_by (event.Pi offset target text) old new none goes whole same over = let h : new.over ≡ None = goes none in cc

    -- The reader told an event, and the loader took it.
    module _ (s : Source) (e : Event) (y : Standing)
        (answer : IsAnswer f.source (pull.Event e))
        (leaves : Leaves f.source (pull.Event e) s)
        (repeats : (over : Ending) → f.source.over ≡ Some over → pull.Event e ≡ answer_of over)
        (goes : Goes f.source (pull.Event e) s)
        (counts : Counts f.source (pull.Event e) s)
        (whole : EndsWhole f.source (pull.Event e))
        (same_end : s.lexer.ended ≡ f.source.lexer.ended)
        (reads_on : is_over x.progress ≡ false)
        (takes : TakesEvent e x.progress y.progress)
        (names : y.names ≡ x.names)
        (keeps : KeepsLists e x.progress y.progress)
        (files : FilesAre y.names y.progress)
        (none : wanted_in x.progress ≡ None) where
      abbrev pub told : Frame
      told = record f { source = s; lists = count_behind e f.lists }

      pub told_some : 0 < f.lists
      told_some = some_lists (future s [] false) e (ap length (sym (leaves [] false)) ∙ (follows.going reads_on).0.lists [] false)

      pub told_one : (offset : ℕ) → e ≡ event.DocumentEnd offset → f.lists ≡ 1
      told_one offset is = sym ((follows.going reads_on).0.lists [] false) ∙ document_one offset (future f.source [] false) (answer [] false ∙ ap pull.Event is)

      -- it has bytes
      pub told_taken : 0 < f.taken
      told_taken = positive f.taken (λ z. (follows.going reads_on).0.began z false e (answer [] false))

      told_going : IsGoing told
      told_going = record {
        lists = λ more ended. counts more ended ∙ ap (count_behind e) ((follows.going reads_on).0.lists more ended);
        over = λ h. (ends_by e f.source s (not_over f.source.over e repeats) goes whole same_end h, told_taken);
        ended = λ h. (follows.going reads_on).0.ended (sym same_end ∙ h);
        within = (follows.going reads_on).0.within;
        known = (follows.going reads_on).0.known;
        began = λ z. absurd (let h : 0 < f.taken = told_taken in omega arith);
      }

      told_lists : (old new : Progress) → KeepsLists e old new → is_over old ≡ false → wanted_in old ≡ None → lists_of old ≡ lists_open (f ∷ outer) → is_over new ≡ false → lists_of new ≡ lists_open (told ∷ outer)
      told_lists (Reads_on s) (Reads_on t) keeps on none before after =
          keeps ∙ ap (lists_behind e) before ∙ lists_then e f.lists outer (lists_open outer) told_some told_one
      told_lists (Reads_on s) (Wants_file href t) keeps on none before after =
          keeps.1 ∙ ap (lists_behind e) before ∙ lists_then e f.lists outer (lists_open outer) told_some told_one
      told_lists (Reads_on s) (Ended items l) keeps on none before after = absurd (false≢true (sym after))
      told_lists (Reads_on s) (Refused_at at why) keeps on none before after = absurd (false≢true (sym after))
      told_lists (Reads_on s) Spent keeps on none before after = absurd (false≢true (sym after))
      told_lists (Wants_file href s) new keeps on none before after = cc
      told_lists (Ended items l) new keeps on none before after = absurd (false≢true (sym on))
      told_lists (Refused_at at why) new keeps on none before after = absurd (false≢true (sym on))
      told_lists Spent new keeps on none before after = absurd (false≢true (sym on))

      told_goes : GoesOn limits name y.names (told ∷ outer) y.progress
      told_goes =
          subst (λ (ns : List (List ℕ)). GoesOn limits name ns (told ∷ outer) y.progress) (sym names)
          (event_taken limits name x.names f outer s (count_behind e f.lists) e x.progress y.progress leaves counts takes (goes_on_by reads_on))

      -- so it goes on
      pub event_follows : Follows limits docs name (told ∷ outer) y left
      event_follows = record {
        comes = comes_by (is_over y.progress) (told ∷ outer) y may_be_read told_goes;
        fewer = follows.fewer;
        going = λ on. (told_going, (follows.going reads_on).1);
        include = follows.include;
        fit = follows.fit;
        names = follows.names ∙ sym names;
        lists = told_lists x.progress y.progress keeps reads_on none (follows.lists reads_on);
        files = files;
        spent = follows.spent;
        all = follows.all;
        adds = follows.adds;
        read = follows.read;
        few = follows.few;
        busy = follows.busy;
        most = follows.most;
        more = follows.more;
        loads = follows.loads;
        chain = follows.chain;
        short = follows.short;
        begins = follows.begins;
      }
