-- What a read leaves, nothing and one more read leave too. The views over passes have these terms as
-- their laws `same_here` and `same_through`; all others call `a_pass_reads_on` or `a_writer_steps_on`.
use Rattle.std.specs.Prelude.{ℕ, [], ◌++◌}
use Rattle.std.proofs.Common.{sym, ap, arith, ◌∙◌, append-nil, append_assoc}
use Rattle.ft_shared.specs.Pass.{ReaderState, WriterState}
use Rattle.ft_image.specs.Passes.{after_reads, HasReadOn, AreCounted, HasMadeSteps}

pub reads_nothing : (pass : ReaderState) → HasReadOn pass pass
reads_nothing pass = record {
  reads = [];
  steps = [];
  is = λ i. record pass {
    notes = record pass.notes {
      reads = sym (append-nil pass.notes.reads) i;
      steps = sym (append-nil pass.notes.steps) i;
    };
  };
}

pub reads_through : (a b c : ReaderState) → HasReadOn a b → HasReadOn b c → HasReadOn a c
reads_through a b c e f = record {
  reads = e.reads ++ f.reads;
  steps = e.steps ++ f.steps;
  is = f.is ∙ (ap (λ (x : ReaderState). record x {
    notes = after_reads x.notes f.reads f.steps;
  }) e.is
      ∙ (λ i. record a {
        notes = record a.notes {
          reads = append_assoc a.notes.reads e.reads f.reads i;
          steps = append_assoc a.notes.steps e.steps f.steps i;
        };
      }));
}

pub counted_through : (a b c : ReaderState) (x y z : ℕ) → AreCounted a b x y → AreCounted b c y z
    → AreCounted a c x z
counted_through a b c x y z e f = omega arith

pub steps_nothing : (pass : WriterState) → HasMadeSteps pass pass
steps_nothing pass = record {
  steps = [];
  is = λ i. record pass {
    account = record pass.account { steps = sym (append-nil pass.account.steps) i };
  };
}

pub steps_through : (a b c : WriterState) → HasMadeSteps a b → HasMadeSteps b c → HasMadeSteps a c
steps_through a b c e f = record {
  steps = e.steps ++ f.steps;
  is = f.is ∙ (ap (λ (x : WriterState). record x {
    account = record x.account { steps = x.account.steps ++ f.steps };
  }) e.is
      ∙ (λ i. record a {
        account = record a.account {
          steps = append_assoc a.account.steps e.steps f.steps i;
        };
      }));
}
