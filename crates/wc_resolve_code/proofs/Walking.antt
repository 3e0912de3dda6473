-- A walk over the entries of a body.
use Rattle.std.proofs.Common.{◌≡◌, ℕ, ◌+◌, ◌-◌, ◌≤◌, ◌<◌, false, Option, List, [], ◌∷◌}
use Rattle.std.proofs.Common.{length, drop, get_or, suc, add-one, refl, sym, ap, ◌∙◌, arith}
use Rattle.std.specs.List.{flat_map}
use Rattle.std.proofs.Math.ListN.{drop_of_length-le}
use Rattle.std.proofs.Math.Seq.{drop-cons}
use Rattle.wc_body.specs.declared.entry.Kind.{Kind}
use Rattle.wc_body.specs.declared.entry.Kind.TheVariants.{Block, Loop, If}
use Rattle.wc_body.specs.declared.instr.Instr.{Instr}
use Rattle.wc_body.specs.declared.instr.BlockType.{BlockType}
use Rattle.wc_body.specs.Standard.Nested.{Code, empty, flatten, nesting, nesting_limit, Mark, plain, otherwise, close}
use Rattle.wc_body.specs.Standard.Draft.{Draft, whole, step}
use Rattle.wc_body.specs.Standard.Draft.{is_open}
use Rattle.wc_body.specs.Standard.Entries.{begin_of as begin_mark}
use Rattle.wc_body.proofs.Codes.Walks.{met, met-flatten, written, written-flatten, Finishes, finishes-flatten}
use Rattle.wc_body.proofs.Codes.Walks.{mapped-nesting}
use Rattle.wc_surface.specs.declared.instr.TextInstr.{TextInstr}
use Rattle.wc_surface.specs.declared.code.TextEntry.{TextEntry}
use Rattle.wc_surface.specs.declared.head.TextBody.{TextBody}
use Rattle.wc_surface.specs.Standard.Marks.{begin_of, mark, marks}
use Rattle.wc_spaces.specs.declared.noted.Fault.{Fault}
use Rattle.wc_spaces.specs.declared.labels.Labels.{Labels}
use Rattle.wc_spaces.specs.Kept.Labels.{IsLabels, depth_of}
use Rattle.wc_spaces.specs.Standard.Least.{least_from}
use Rattle.wc_spaces.proofs.Least.{least-append}
use Rattle.wc_spaces.proofs.Opening.{same-length}
use Rattle.wc_resolve_code.specs.declared.why.NameWhy.{NameWhy}
use Rattle.wc_resolve_code.specs.declared.around.Around.{Around}
use Rattle.wc_resolve_code.specs.Standard.Contexts.{Context, Declared}
use Rattle.wc_resolve_code.specs.Standard.Instructions.{resolved_instr, instr_faults}
use Rattle.wc_resolve_code.specs.Standard.Heads.{enter, resolved_head, head_faults}
use Rattle.wc_resolve_code.specs.Standard.Bodies.{resolved, mark_faults, body_faults}
use Rattle.wc_resolve_code.specs.Kept.Known.{Knows}
use Rattle.wc_resolve_code.specs.Kept.Opened.{firsts, begins_if}
use Rattle.wc_resolve_code.proofs.Shapes.{Shaped, shaped-plain, shaped-begin, shaped-else, shaped-close, room-begin}
use Rattle.wc_resolve_code.proofs.Shapes.{comes-close, closed-whole, firsts-length, turned-length, closed-length}
use Rattle.wc_resolve_code.proofs.Shapes.{open-length}

-- the labels around the innermost block
abbrev pub leave : Declared → Declared
leave ls = drop 1 ls

-- inside these labels: what is noted, what is built, and the marks that come
pub record Walking (c : Context) (b : TextBody) (total : Option (Fault NameWhy)) (ls : Declared)
    (noted : Option (Fault NameWhy)) (d : Draft Instr BlockType) (ms : List (Mark TextInstr ℕ)) : Type 0 where
  pub faults : least_from noted (flat_map (mark_faults c b) (met (enter b) leave ls ms)) ≡ total
  pub out : Finishes nesting_limit d (written (enter b) leave (resolved_instr c b) (resolved_head c b) ls ms)
      (resolved c b)

module _ (c : Context) (b : TextBody) (total : Option (Fault NameWhy)) (ls : Declared)
    (noted now : Option (Fault NameWhy)) (d : Draft Instr BlockType) (ms : List (Mark TextInstr ℕ)) where
  pub next-plain : (i : TextInstr) → Walking c b total ls noted d (plain i ∷ ms)
      → now ≡ least_from noted (instr_faults c b ls i)
      → Walking c b total ls now (step d (plain (resolved_instr c b ls i))) ms
  next-plain i w e = record {
    faults = rw e (sym (least-append noted (instr_faults c b ls i) _) ∙ w.faults);
    out = w.out.2;
  }

  pub next-begin : (kind : Kind) (head : ℕ) → Walking c b total ls noted d (begin_of kind head ∷ ms)
      → now ≡ least_from noted (head_faults b head)
      → Walking c b total (enter b ls head) now (step d (begin_mark kind (resolved_head c b ls head))) ms
  next-begin Block head w e =
      record { faults = rw e (sym (least-append noted (head_faults b head) _) ∙ w.faults); out = w.out.2 }
  next-begin Loop head w e =
      record { faults = rw e (sym (least-append noted (head_faults b head) _) ∙ w.faults); out = w.out.2 }
  next-begin If head w e =
      record { faults = rw e (sym (least-append noted (head_faults b head) _) ∙ w.faults); out = w.out.2 }

  pub next-else : Walking c b total ls noted d (otherwise ∷ ms) → Walking c b total ls noted (step d otherwise) ms
  next-else w = record { faults = w.faults; out = w.out.2 }

  pub next-close : Walking c b total ls noted d (close ∷ ms) → Walking c b total (drop 1 ls) noted (step d close) ms
  next-close w = record { faults = w.faults; out = w.out.2 }

pub walking-starts : (c : Context) (b : TextBody) (es : List TextEntry) (noted : Option (Fault NameWhy))
    → marks es ≡ flatten b.code → nesting b.code ≤ nesting_limit
    → Walking c b (least_from noted (body_faults c b)) [] noted (whole empty) (marks es)
walking-starts c b es noted flat within = rw flat (record {
  faults = ap (λ (x : List (Declared × Mark TextInstr ℕ)). least_from noted (flat_map (mark_faults c b) x))
      (met-flatten (enter b) leave (λ ls h. refl) [] b.code);
  out = rw (written-flatten (enter b) leave (λ ls h. refl) (resolved_instr c b) (resolved_head c b) [] b.code)
      (finishes-flatten nesting_limit (resolved c b) (rw mapped-nesting within));
})

-- ---- the whole invariant

-- what holds of a context that is known
pub record WalksIn (c : Context) (b : TextBody) (first : Option (Fault NameWhy)) (labels : Labels)
    (noted : Option (Fault NameWhy)) (d : Draft Instr BlockType) (ms : List (Mark TextInstr ℕ)) : Type 0 where
  pub names : Declared
  pub labelled : IsLabels names labels
  pub walking : Walking c b (least_from first (body_faults c b)) names noted d ms

-- what holds before the next mark
pub record Inside (around : Around) (b : TextBody) (first : Option (Fault NameWhy)) (labels : Labels)
    (noted : Option (Fault NameWhy)) (d : Draft Instr BlockType) (ms : List (Mark TextInstr ℕ)) : Type 0 where
  pub shaped : Shaped b.code d.around ms
  pub depth : depth_of labels ≡ length d.around
  pub shallow : length d.around ≤ nesting_limit
  pub known : (c : Context) → Knows c around → WalksIn c b first labels noted d ms

pub next-entry : (es : List TextEntry) (i : ℕ) (d e : TextEntry) → i < length es → get_or es i d ≡ e
    → marks (drop i es) ≡ mark e ∷ marks (drop (i + 1) es)
next-entry es i d e lt f =
    let same : drop i es ≡ e ∷ drop (i + 1) es =
    rw add-one (drop-cons es i d lt ∙ ap (λ (z : TextEntry). z ∷ drop (suc i) es) f) in
    ap (λ (x : List TextEntry). marks x) same

pub none-left : (es : List TextEntry) (i : ℕ) → length es ≤ i → marks (drop i es) ≡ []
none-left es i past = ap (λ (x : List TextEntry). marks x) (drop_of_length-le es past)

left-inside : (ls : Declared) (old new : Labels) → IsLabels ls old → 0 < depth_of old
    → ((l : Option (List ℕ)) (rest : Declared) → IsLabels (l ∷ rest) old → IsLabels rest new) → IsLabels (drop 1 ls) new
left-inside [] old new w some f = absurd (omega (arith, same-length [] old w))
left-inside (l ∷ ls) old new w some f = f l ls w

module _ (around : Around) (b : TextBody) (first : Option (Fault NameWhy)) where
  pub inside-starts : (es : List TextEntry) (labels : Labels) → marks es ≡ flatten b.code
      → nesting b.code ≤ nesting_limit → IsLabels [] labels → depth_of labels ≡ 0
      → Inside around b first labels first (whole empty) (marks es)
  inside-starts es labels flat within is none = record {
    shaped = record {
      text = whole empty;
      finishes = rw flat (finishes-flatten nesting_limit b.code within);
      same = refl;
    };
    depth = none;
    shallow = omega arith;
    known = λ c knows. record { names = []; labelled = is; walking = walking-starts c b es first flat within };
  }

  module _ (labels : Labels) (noted : Option (Fault NameWhy)) (d : Draft Instr BlockType)
      (ms : List (Mark TextInstr ℕ)) where
    pub inside-plain : (i : TextInstr) (now : Option (Fault NameWhy)) (new : Draft Instr BlockType)
        → Inside around b first labels noted d (plain i ∷ ms) → new.around ≡ d.around
        → ((c : Context) (ls : Declared) → Knows c around → IsLabels ls labels
        → new ≡ step d (plain (resolved_instr c b ls i)))
        → ((c : Context) (ls : Declared) → Knows c around → IsLabels ls labels
        → now ≡ least_from noted (instr_faults c b ls i))
        → Inside around b first labels now new ms
    inside-plain i now new w same built told = record {
      shaped = shaped-plain b.code ms d i new.around w.shaped same;
      depth = w.depth ∙ ap length (sym same);
      shallow = omega (arith, w.shallow, ap length same);
      known = λ c knows.
          let k = w.known c knows in record {
            names = k.names;
            labelled = k.labelled;
            walking = rw (built c k.names knows k.labelled)
                (next-plain c b _ k.names noted now d ms i k.walking (told c k.names knows k.labelled));
          };
    }

    pub inside-begin : (kind : Kind) (head : ℕ) (now : Option (Fault NameWhy)) (inner : Labels)
        (new : Draft Instr BlockType) → Inside around b first labels noted d (begin_of kind head ∷ ms)
        → firsts new.around ≡ begins_if kind ∷ firsts d.around
        → ((c : Context) (ls : Declared) → Knows c around → new ≡ step d (begin_mark kind (resolved_head c b ls head)))
        → ((ls : Declared) → IsLabels ls labels → IsLabels (enter b ls head) inner)
        → depth_of inner ≡ depth_of labels + 1 → now ≡ least_from noted (head_faults b head)
        → Inside around b first inner now new ms
    inside-begin kind head now inner new w parts built entered deeper told =
        let longer : length new.around ≡ length d.around + 1 =
        sym (firsts-length new.around) ∙ ap length parts ∙ omega (arith, firsts-length d.around) in
        let room = room-begin b.code ms d kind head w.shaped in record {
          shaped = shaped-begin b.code ms d kind head new.around w.shaped parts;
          depth = omega (arith, w.depth, longer, deeper);
          shallow = omega (arith, longer, room);
          known = λ c knows.
              let k = w.known c knows in record {
                names = enter b k.names head;
                labelled = entered k.names k.labelled;
                walking = rw (built c k.names knows)
                    (next-begin c b _ k.names noted now d ms kind head k.walking told);
              };
        }

    pub inside-else : Inside around b first labels noted d (otherwise ∷ ms)
        → Inside around b first labels noted (step d otherwise) ms
    inside-else w = record {
      shaped = shaped-else b.code ms d w.shaped;
      depth = w.depth ∙ sym (turned-length d.around d.last);
      shallow = omega (arith, w.shallow, turned-length d.around d.last);
      known = λ c knows.
          let k = w.known c knows in record {
            names = k.names;
            labelled = k.labelled;
            walking = next-else c b _ k.names noted noted d ms k.walking;
          };
    }

    pub inside-close : (outer : Labels) → Inside around b first labels noted d (close ∷ ms)
        → ((l : Option (List ℕ)) (rest : Declared) → IsLabels (l ∷ rest) labels → IsLabels rest outer)
        → depth_of outer ≡ depth_of labels - 1 → Inside around b first outer noted (step d close) ms
    inside-close outer w left fewer =
        let some = open-length d.around (comes-close b.code ms d w.shaped) in record {
          shaped = shaped-close b.code ms d w.shaped;
          depth = omega (arith, w.depth, fewer, closed-length d.around d.last);
          shallow = omega (arith, w.shallow, closed-length d.around d.last);
          known = λ c knows.
              let k = w.known c knows in record {
                names = drop 1 k.names;
                labelled = left-inside k.names labels outer k.labelled (omega (arith, w.depth, some)) left;
                walking = next-close c b _ k.names noted noted d ms k.walking;
              };
        }

  module _ (labels : Labels) (noted : Option (Fault NameWhy)) (d : Draft Instr BlockType) where
    pub inside-ends : Inside around b first labels noted d [] → is_open d.around ≡ false
    inside-ends w = closed-whole b.code d.around w.shaped

    pub built-whole : (code : Code Instr BlockType) → Inside around b first labels noted d [] → d ≡ whole code
        → (c : Context) → Knows c around → code ≡ resolved c b
    built-whole code w is c knows =
        let all : d ≡ whole (resolved c b) = (w.known c knows).walking.out in
        ap (λ (x : Draft Instr BlockType). x.last) (sym is ∙ all)

    pub noted-all : Inside around b first labels noted d [] → (c : Context) → Knows c around
        → noted ≡ least_from first (body_faults c b)
    noted-all w c knows = (w.known c knows).walking.faults
