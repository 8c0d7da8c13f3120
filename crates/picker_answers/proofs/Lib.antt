pub mod AdmittedLaws
