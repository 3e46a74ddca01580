-- What stays so where the innermost file was read to its end and is left.
use Rattle.std.proofs.Common.{◌≡◌, ℕ, ◌+◌, ◌-◌, ◌<◌, ◌≤◌, Bool, true, false, List, [], ◌∷◌, ◌++◌, map, length, Option, Some, refl, sym, ap, subst, ◌∙◌, arith, append_assoc}
use Rattle.stx_base.specs.Course.{Begins}
use Rattle.stx_base.specs.declared.limits.Limits.{Limits}
use Rattle.xml_events.specs.Answering.{Goes}
use Rattle.xml_events.specs.Source.{IsAnswer, Source, future}
use Rattle.xml_events.specs.Telling.{event_of, pulled, start_pulled}
use Rattle.xml_events.specs.Tree as tree
use Rattle.xml_events.specs.Tree.{Need, Bad, Forest, Future, End, Cut, Single, Nested}
use Rattle.xml_events.specs.declared.event.Pull.TheVariants as pull
use Rattle.sheet_loader.specs.Files.{Documents, load, load_from, share}
use Rattle.sheet_loader.specs.Loaders.{Standing, is_over}
use Rattle.sheet_loader.specs.Reading.{File}
use Rattle.sheet_loader.specs.Values.{Reads}
use Rattle.sheet_loader.specs.Versions.{language}
use Rattle.sheet_files.specs.Following.{AreParts, Comes, EndsShort, Follows, HaveFault, IsGoing}
use Rattle.sheet_files.specs.Frames.{AllFit, AreCut, Frame, Part, as_opened, cut_file, files_cut, lists_onto, lists_open, parts_of, whole_file}
use Rattle.sheet_files.specs.Undecided.{files_at}
use Rattle.sheet_files.proofs.Counting.{greater_first}
use Rattle.sheet_files.proofs.Following.{goes_on_by}
use Rattle.sheet_files.proofs.Opening.{map_append}
use Rattle.sheet_files.proofs.Sounding.{read_left}
use Rattle.sheet_files.proofs.Steps.{left_file}

no_leaf : (leaf : tree.Leaf) → pull.Event (event_of leaf) ≡ pull.End → ⊥
no_leaf leaf h = cc

no_start : (e : tree.Element) (kids : Forest) → start_pulled e kids ≡ pull.End → ⊥
no_start e (End mark at) h = cc
no_start e (Cut Need) h = cc
no_start e (Cut (Bad fault)) h = cc
no_start e (Single mark leaf next) h = cc
no_start e (Nested stage inner kids next) h = cc

-- where the end is told no list is open
pub none_open : (f : Future) → pulled f ≡ pull.End → f ≡ []
none_open [] h = refl
none_open (End mark at ∷ lists) h = cc
none_open (Cut Need ∷ lists) h = cc
none_open (Cut (Bad fault) ∷ lists) h = cc
none_open (Single mark leaf next ∷ lists) h = absurd (no_leaf leaf h)
none_open (Nested stage e kids next ∷ lists) h = absurd (no_start e kids h)

fit_both : (limits : Limits) (a b : List Part) → AllFit limits a → AllFit limits b → AllFit limits (a ++ b)
fit_both limits [] b x y = y
fit_both limits (p ∷ a) b x y = (x.0, fit_both limits a b x.1 y)

module _ (limits : Limits) (docs : Documents) (name : List ℕ) (f g : Frame) (outer : List Frame) (x : Standing) (left : ℕ) (follows : Follows limits docs name (f ∷ g ∷ outer) x left) (reads_on : is_over x.progress ≡ false) where
  -- the file around it goes on
  abbrev pub around : Frame
  around = record g { done = g.done ++ f.part ∷ f.done }

  parts_same : parts_of (f ∷ g ∷ outer) ≡ parts_of (around ∷ outer)
  parts_same = append_assoc (parts_of outer) (g.part ∷ g.done) (f.part ∷ f.done)

  files_more : (m : ℕ) (cuts : List ℕ) (others : List (Option File)) → files_cut limits (around ∷ outer) (m ∷ cuts) ++ others ≡ files_cut limits (g ∷ outer) (m ∷ cuts) ++ (map (whole_file limits) (f.part ∷ f.done) ++ others)
  files_more m cuts others =
      let before = files_cut limits outer cuts in
      let own : Option File = Some (cut_file limits g.part.bytes m) in
      let done = map (whole_file limits) g.done in
      let more = map (whole_file limits) (f.part ∷ f.done) in
      ap (λ (l : List (Option File)). (before ++ own ∷ l) ++ others) (map_append (whole_file limits) g.done (f.part ∷ f.done))
      ∙ ap (λ (l : List (Option File)). l ++ others) (sym (append_assoc before (own ∷ done) more))
      ∙ append_assoc (before ++ own ∷ done) more others

  fewer : (m : ℕ) → m < g.taken → (reads : Reads) (cuts : List ℕ) → AreCut outer cuts → EndsShort reads name (files_cut limits (around ∷ outer) (m ∷ cuts))
  fewer m lt reads cuts cut others =
      let more = map (whole_file limits) (f.part ∷ f.done) ++ others in
      let short = follows.fewer.1.0 m lt reads cuts cut more in
      subst (λ (l : List (Option File)). HaveFault reads name l) (sym (files_more m cuts others)) short

  -- The reader told that its document is over.
  module _ (s : Source) (answer : IsAnswer f.source pull.End) (gives : Goes f.source pull.End s) where
    ended : (f.source.lexer.ended ≡ true) × (0 < f.taken)
    ended = (follows.going reads_on).0.over gives

    read_whole : f.taken ≡ length f.part.bytes
    read_whole = (follows.going reads_on).0.ended ended.0

    none : (more : List ℕ) (e : Bool) → future f.source more e ≡ []
    none more e = none_open (future f.source more e) (answer more e)

    no_lists : f.lists ≡ 0
    no_lists = sym ((follows.going reads_on).0.lists [] false) ∙ ap length (none [] false)

    fits : length f.part.bytes ≤ share limits (as_opened f.part)
    fits =
        let sum = follows.adds.0 in
        let all = follows.all in
        let whole = read_whole in
        let first = greater_first ((limits.sheet - f.part.before) - f.part.inside) f.part.known in
        omega (arith, sum, all, whole, first)

    around_going : IsGoing around
    around_going =
        let h = (follows.going reads_on).1.0 in
        record { lists = h.lists; over = h.over; ended = h.ended; within = h.within; known = h.known; began = h.began }

    pub leave_follows : Follows limits docs name (around ∷ outer) x left
    leave_follows = record {
      comes = subst (λ (b : Bool). Comes limits name (around ∷ outer) x b) (sym reads_on)
          (left_file limits name x.names f g outer x.progress (let h = read_whole in omega (arith, h)) none (goes_on_by limits docs name f (g ∷ outer) x left follows reads_on));
      fewer = (fewer, follows.fewer.1.1);
      going = λ on. (around_going, (follows.going reads_on).1.1);
      include = follows.include.3;
      fit = (fit_both limits g.done (f.part ∷ f.done) follows.fit.1.0 (fits, follows.fit.0), follows.fit.1.1);
      names = ap (map (λ (p : Part). p.name)) (sym parts_same) ∙ follows.names;
      lists = λ on. follows.lists on ∙ ap (λ (n : ℕ). lists_onto n (g ∷ outer) (lists_open (g ∷ outer))) no_lists;
      files = follows.files;
      spent = follows.spent;
      all = follows.all;
      adds = (follows.adds.1.0 ∙ ap (λ (n : ℕ). f.part.before + f.part.inside + n) (sym read_whole) ∙ follows.adds.0, follows.adds.1.1);
      read = read_left f g outer read_whole ∙ follows.read;
      few = subst (λ (l : List Part). length l ≤ follows.spent + 1) parts_same follows.few;
      busy = λ some. subst (λ (l : List Part). length l ≤ follows.spent) parts_same (follows.busy ended.1);
      most = follows.most;
      more = ap (λ (l : List Part). follows.most + length l) (sym parts_same) ∙ follows.more;
      chain = λ are reads. ap (λ (l : List Part). files_at reads limits docs name (length l)) (sym parts_same) ∙ follows.chain (subst (AreParts docs) (sym parts_same) are) reads ∙ ap (map as_opened) parts_same;
      loads = λ are reads. follows.loads (subst (AreParts docs) (sym parts_same) are) reads ∙ ap (λ (l : List Part). load_from language reads limits docs name follows.most (map as_opened l)) parts_same;
      short = follows.short.1;
      begins = λ are reads. subst (λ (l : List Part). Begins (map (λ (p : Part). p.name) l) (load reads limits docs name).opened) parts_same (follows.begins (subst (AreParts docs) (sym parts_same) are) reads);
    }
