pub mod SystematicTable
