-- What an element of the language comes to at its end.
use Rattle.std.proofs.Common.{◌≡◌, ℕ, true, false, ◌&&◌, ◌==◌, List, [], ◌∷◌, ◌++◌, length, Option, refl, ap, ◌∙◌, if◌then◌else◌}
use Rattle.std.proofs.lemmas.List.{append-nil}
use Rattle.stx_base.specs.Course.{Halt, Ret, and_then}
use Rattle.stx_base.specs.declared.fault.Place.{Place}
use Rattle.stx_base.specs.declared.fault.SheetCode.TheVariants as code
use Rattle.stx_base.specs.declared.name.Binding.{Binding}
use Rattle.stx_base.specs.declared.name.Name.{Name}
use Rattle.sheet_model.specs.declared.instr.WithParam.{WithParam}
use Rattle.xml_events.specs.Tree.{Element, Future}
use Rattle.sheet_loader.proofs.Places.{place_with}
use Rattle.sheet_loader.specs.Elements as element
use Rattle.sheet_loader.specs.Elements.{Kind}
use Rattle.sheet_loader.specs.Judging.{is_declared_here, scope_at}
use Rattle.sheet_loader.specs.Levels.{Place_in}
use Rattle.sheet_loader.specs.Making.{Values, branches, item, locals_of, name, select, with_params}
use Rattle.sheet_loader.specs.Read.{ended, is_choose, listed, made}
use Rattle.sheet_loader.specs.Reading.{Does, File, Item, Listed, Loading, Refused, place, refused}
use Rattle.sheet_loader.specs.Remaining.{goes_on}
use Rattle.sheet_loader.specs.Resuming.{closes, continue, resume}
use Rattle.sheet_loader.specs.Values.{Reads}

module _ (reads : Reads) (files : List (Option File)) (q : Place_in) (e : Element) (kind : Kind) (v : Values) (items : List Item) (l : Loading) (f : Future) where
  abbrev inner : Listed
  inner = record { items = items; loading = l }

  -- the list of an element of a place is at its end
  abbrev pub ends_there : Does Listed
  ends_there = closes reads files q.here q.before e kind v (continue reads files q.opens) inner f

  abbrev on : Listed → Does Listed
  on s = resume reads files q.here (q.before ++ s.items) s.loading q.opens f

  -- a choose without branches
  pub no_branch : (is_choose kind && length (branches items) == 0) ≡ true → ends_there ≡ Halt (Refused (place q.here e.offset) code.Misplaced)
  no_branch h = ap (λ b. and_then (if b then refused q.here e.offset code.Misplaced else Ret (made q.here e.offset kind (scope_at q.here e) v inner)) on) h

  -- a declaration adds to the sheet
  pub adds_to_sheet : (is_choose kind && length (branches items) == 0) ≡ false → is_declared_here q.here.inside ≡ true → ends_there ≡ goes_on reads files q (ended q.here e.offset kind v inner) f
  adds_to_sheet h d =
      ap (λ b. and_then (if b then refused q.here e.offset code.Misplaced else Ret (made q.here e.offset kind (scope_at q.here e) v inner)) on) h
      ∙ ap (λ b. on (if b then listed [] (ended q.here e.offset kind v inner) else listed (item kind q.here.group (place q.here e.offset) (scope_at q.here e) v items) l)) d
      ∙ ap (λ b. resume reads files q.here b (ended q.here e.offset kind v inner) q.opens f) (append-nil q.before)

  -- another element adds to its list
  pub adds_to_list : (is_choose kind && length (branches items) == 0) ≡ false → is_declared_here q.here.inside ≡ false → ends_there ≡ goes_on reads files (place_with (item kind q.here.group (place q.here e.offset) (scope_at q.here e) v items) q) l f
  adds_to_list h d =
      ap (λ b. and_then (if b then refused q.here e.offset code.Misplaced else Ret (made q.here e.offset kind (scope_at q.here e) v inner)) on) h
      ∙ ap (λ b. on (if b then listed [] (ended q.here e.offset kind v inner) else listed (item kind q.here.group (place q.here e.offset) (scope_at q.here e) v items) l)) d

-- the names that an element brings into scope behind it
abbrev pub brought_by : Kind → Values → List Name
brought_by element.Variable v = name v ∷ []
brought_by element.Param v = name v ∷ []
brought_by other v = []

-- the parameters to which an element gives a value
abbrev pub given_by : Kind → Values → List WithParam
given_by element.WithParam v = record { name = name v; select = select v } ∷ []
given_by other v = []

module _ (group : ℕ) (at : Place) (scope : List Binding) (v : Values) (items : List Item) where
  pub locals_of_item : (kind : Kind) → locals_of (item kind group at scope v items) ≡ brought_by kind v
  locals_of_item element.Variable = refl
  locals_of_item element.Param = refl
  locals_of_item other = refl

  pub values_of_element : (kind : Kind) → with_params (item kind group at scope v items) ≡ given_by kind v
  values_of_element element.WithParam = refl
  values_of_element other = refl
