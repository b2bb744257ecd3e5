pub mod CutLaws
