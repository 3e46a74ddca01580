-- What is so where the sheet's own file was opened, or is absent.
use Rattle.std.proofs.Common.{◌≡◌, ℕ, suc, ◌+◌, Bool, false, List, [], ◌∷◌, ◌++◌, length, Option, Some, None, Err, refl, sym, ap, subst, ◌∙◌, arith}
use Rattle.std.proofs.lemmas.Bool.{false≢true}
use Rattle.stx_base.specs.Course.{Say, says}
use Rattle.stx_base.specs.declared.fault.SheetCode.TheVariants as code
use Rattle.stx_base.specs.declared.limits.Limits.{Limits}
use Rattle.xml_events.specs.Document.{doc}
use Rattle.xml_events.specs.Source.{Source, future}
use Rattle.xml_events.specs.Telling.{pulled}
use Rattle.xml_events.specs.Tree.{Future}
use Rattle.xml_events.specs.declared.event.Event.{Event}
use Rattle.xml_events.specs.declared.event.Pull.TheVariants as pull
use Rattle.sheet_loader.specs.Files.{Documents, load, load_from, loads}
use Rattle.sheet_loader.specs.Laws.{ComesToOne}
use Rattle.sheet_loader.specs.Load.{sheet_of}
use Rattle.sheet_loader.specs.Lists.{FilesAre, lists_of}
use Rattle.sheet_loader.specs.Loaders.{Standing, is_over}
use Rattle.sheet_loader.specs.Reading.{File}
use Rattle.sheet_loader.specs.Remaining.{beginning, remaining}
use Rattle.sheet_loader.specs.Values.{Reads}
use Rattle.sheet_loader.specs.Versions.{language, version_of}
use Rattle.sheet_files.specs.Following.{Comes, Follows, IsGoing}
use Rattle.sheet_files.specs.Frames.{Frame, GoesOn, cut_file, lists_cut}
use Rattle.sheet_files.proofs.Begins.{opens_own, own_begins}
use Rattle.sheet_files.proofs.Courses.{equal_answer}
use Rattle.sheet_files.proofs.Cuts.{begun}
use Rattle.sheet_files.proofs.Entering.{fresh}
use Rattle.sheet_files.proofs.Following.{not_both}

module _ (reads : Reads) (limits : Limits) (docs : Documents) (name : List ℕ) where
  -- it is absent
  pub own_absent : docs name ≡ None → load reads limits docs name ≡ loads (name ∷ []) (Err (record { file = name; code = code.NoDocument; offset = 0 }))
  own_absent none =
      opens_own reads limits docs name ∙ ap (λ (b : Option (List ℕ)). load_from language reads limits docs name (suc (limits.sheet + 1)) (record { name = name; bytes = b; before = 0; inside = 0; known = 0 } ∷ [])) none

-- it is there, and is read next
module _ (limits : Limits) (docs : Documents) (name : List ℕ) (one : ComesToOne) (bytes : List ℕ) (t : Source)
    (begins : (bytes : List ℕ) (ended : Bool) → future t bytes ended ≡ doc limits false bytes ended ∷ []) (not_over : t.over ≡ None) (not_ended : t.lexer.ended ≡ false)
    (nothing : (ended : Bool) (e : Event) → pulled (doc limits false [] ended ∷ []) ≡ pull.Event e → ⊥)
    (x : Standing) (names : x.names ≡ name ∷ []) (progress : x.progress ≡ beginning name)
    (sheet : (reads : Reads) (own : File) (others : List (Option File)) → own.version ≡ version_of language own.nodes → sheet_of reads name (Some own ∷ others) ≡ Say name (remaining reads (Some own ∷ others) x.progress (own.nodes ∷ []))) where
  abbrev pub own : Frame
  own = fresh name bytes 0 t

  own_goes : GoesOn limits name x.names (own ∷ []) x.progress
  own_goes [] cut reads others = absurd cut
  own_goes (m ∷ []) cut reads others =
      let file = cut_file limits bytes m in
      let files : List (Option File) = Some file ∷ others in
      let lists : lists_cut (own ∷ []) (m ∷ []) ≡ file.nodes ∷ [] = ap (λ (l : Future). l ++ []) (begun t limits bytes m begins) in
      equal_answer reads files
      (sheet reads file others refl
      ∙ ap (λ (l : Future). Say name (remaining reads files x.progress l)) (sym lists)
      ∙ ap (λ (ns : List (List ℕ)). says ns (remaining reads files x.progress (lists_cut (own ∷ []) (m ∷ [])))) (sym names))
  own_goes (m ∷ k ∷ cuts) cut reads others = absurd cut.1

  own_going : IsGoing own
  own_going = record {
    lists = λ more e. ap length (begins more e);
    over = λ h. absurd (not_both t.over not_over h);
    ended = λ h. absurd (false≢true (sym not_ended ∙ h));
    within = omega arith;
    known = omega arith;
    began = λ zero e event h. nothing e event (ap pulled (sym (begins [] e)) ∙ h);
  }

  pub own_follows : Follows limits docs name (own ∷ []) x limits.sheet
  own_follows = record {
    comes = subst (λ p. Comes limits name (own ∷ []) x (is_over p)) (sym progress) own_goes;
    fewer = (λ m lt. absurd (omega (arith, lt)), tt);
    going = λ on. (own_going, tt);
    include = tt;
    fit = (tt, tt);
    names = sym names;
    lists = λ on. ap lists_of progress;
    files = subst (FilesAre x.names) (sym progress) (sym names, omega arith);
    spent = 0;
    all = omega arith;
    adds = (refl, tt);
    read = refl;
    few = omega arith;
    busy = λ some. absurd (omega (arith, some));
    most = suc (limits.sheet + 1);
    more = omega arith;
    chain = λ are reads. ap (λ (b : Option (List ℕ)). record { name = name; bytes = b; before = 0; inside = 0; known = 0 } ∷ []) are.0;
    loads = λ are reads. opens_own reads limits docs name ∙ ap (λ (b : Option (List ℕ)). load_from language reads limits docs name (suc (limits.sheet + 1)) (record { name = name; bytes = b; before = 0; inside = 0; known = 0 } ∷ [])) are.0;
    short = (omega arith, tt);
    begins = λ are reads. own_begins reads limits docs name one;
  }
